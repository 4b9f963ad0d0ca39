use Rattle.where_grammar.proofs.ToRules.{clause_spelled}
use Rattle.where_grammar.proofs.FromRules.{clause_case}
use Rattle.where_grammar.proofs.laws.by_cases.Goals as goal

pub returns : goal.returns
returns c = λ n ts e. (clause_case n ts e, clause_spelled n ts e)
