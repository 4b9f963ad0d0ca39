use Rattle.http_edge.proofs.TellLaws.{read_back}
use Rattle.http_edge.proofs.text_laws.reply_is_read_back.Goals as goal

pub returns : goal.returns
returns c = read_back
