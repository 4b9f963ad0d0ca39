use Rattle.where_grammar.proofs.Exactly.{exact}
use Rattle.where_grammar.proofs.laws.exact.Goals as goal

pub returns : goal.returns
returns c = exact
