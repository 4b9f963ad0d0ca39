use Rattle.where_grammar.proofs.ClauseLaws.{one_tree}
use Rattle.where_grammar.proofs.laws.one_tree.Goals as goal

pub returns : goal.returns
returns c = one_tree
