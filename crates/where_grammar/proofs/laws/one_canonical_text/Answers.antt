use Rattle.where_grammar.proofs.ClauseLaws.{one_canonical_text}
use Rattle.where_grammar.proofs.laws.one_canonical_text.Goals as goal

pub returns : goal.returns
returns c = one_canonical_text
