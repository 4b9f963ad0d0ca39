use Rattle.where_lexer.proofs.TextLaws.{text_again}
use Rattle.where_lexer.proofs.laws.text_again.Goals as goal

pub returns : goal.returns
returns c = text_again
