use Rattle.where_grammar.proofs.Exactly.{whole}
use Rattle.where_grammar.proofs.laws.whole.Goals as goal

pub returns : goal.returns
returns c = whole
