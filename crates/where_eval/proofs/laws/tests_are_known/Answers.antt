use Rattle.std.proofs.Common.{◌∷◌, []}
use Rattle.where_eval.specs.Scalars.{passes, is_distinct}
use Rattle.where_eval.specs.Kinds.{common}
use Rattle.where_eval.specs.Truth.{value_of, kind_of_test}
use Rattle.where_eval.proofs.Truths.{known}
use Rattle.where_eval.proofs.laws.tests_are_known.Goals as goal

pub returns : goal.returns
returns c = λ columns row l r neg test.
    (known neg (passes test (value_of columns row (kind_of_test test) l)), known neg (is_distinct (value_of columns row (common columns (l ∷ r ∷ [])) l) (value_of columns row (common columns (l ∷ r ∷ [])) r)))
