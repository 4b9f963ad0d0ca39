use Rattle.script_play.proofs.Headlines.{headline}
use Rattle.script_play.proofs.laws.headline.Goals as goal

pub returns : goal.returns
returns c = headline c.answers_are_right.ensures c.headline.ensures
