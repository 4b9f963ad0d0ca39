use Rattle.http_edge.proofs.TellLaws.{texts_tell}
use Rattle.http_edge.proofs.text_laws.reply_texts_tell.Goals as goal

pub returns : goal.returns
returns c = texts_tell
