use Rattle.where_grammar.proofs.ClauseLaws.{printed_again}
use Rattle.where_grammar.proofs.laws.printed_again.Goals as goal

pub returns : goal.returns
returns c = printed_again
