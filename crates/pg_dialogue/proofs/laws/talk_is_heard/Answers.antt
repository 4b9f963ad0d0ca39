use Rattle.pg_dialogue.proofs.Listening.{talk_heard}
use Rattle.pg_dialogue.proofs.laws.talk_is_heard.Goals as goal

pub returns : goal.returns
returns c = talk_heard
