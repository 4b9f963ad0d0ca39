use Rattle.std.proofs.Common.{◌∷◌, [], map}
use Rattle.pg_values.specs.declared.kind.Kind.TheVariants.{Text}
use Rattle.where_lexer.specs.declared.token.CmpOp.TheVariants.{Eq, Ge, Le}
use Rattle.where_eval.specs.Logic.{of_bool, all_of, any_of}
use Rattle.where_eval.specs.Scalars.{compared, passes, is_distinct, like_of}
use Rattle.where_eval.specs.Leaves.{listed}
use Rattle.where_eval.specs.Kinds.{common}
use Rattle.where_eval.specs.Truth.{value_of, values_of, kind_of_test}
use Rattle.where_eval.proofs.Truths.{negation}
use Rattle.where_eval.proofs.laws.negated_forms_are_negations.Goals as goal

pub returns : goal.returns
returns c = λ columns row l low high ts pattern test. (
  negation (any_of (map (compared Eq (value_of columns row (common columns (l ∷ listed ts)) l)) (values_of columns row (common columns (l ∷ listed ts)) ts))),
  negation (all_of (compared Ge (value_of columns row (common columns (l ∷ low ∷ high ∷ [])) l) (value_of columns row (common columns (l ∷ low ∷ high ∷ [])) low) ∷ compared Le (value_of columns row (common columns (l ∷ low ∷ high ∷ [])) l) (value_of columns row (common columns (l ∷ low ∷ high ∷ [])) high) ∷ [])),
  negation (like_of pattern (value_of columns row Text l)),
  negation (of_bool (passes test (value_of columns row (kind_of_test test) l))),
  negation (of_bool (is_distinct (value_of columns row (common columns (l ∷ low ∷ [])) l) (value_of columns row (common columns (l ∷ low ∷ [])) low))),
)
