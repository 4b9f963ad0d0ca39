-- What a checked clause means.
use Rattle.std.specs.Prelude.{List, [], ◌∷◌, map, Option, Some, None, slice_index_or}
use Rattle.shape_base.specs.declared.value.Value.TheVariants as values
use Rattle.shape_base.specs.Tables.{Values}
use Rattle.where_lexer.specs.declared.token.CmpOp.TheVariants as ops
use Rattle.where_eval.specs.declared.constant.Constant.{Constant}
use Rattle.where_eval.specs.declared.constant.Constant.TheVariants as constants
use Rattle.where_eval.specs.declared.plan.Plan as plans
use Rattle.where_eval.specs.declared.plan.Plans as chains
use Rattle.shape_base.specs.declared.truth.Tri.{Tri}
use Rattle.where_eval.specs.Logic.{of_bool, not_of, all_of, any_of, negated}
use Rattle.where_eval.specs.Scalars.{Scalar, Truth, Number, Words, Id, read_cell, tri_of, of_tri, compared, is_distinct, passes, fits_scalar}

-- a constant that was read
abbrev pub scalar_of : Constant → Option Scalar
scalar_of constants.Null = None
scalar_of (constants.Truth b) = Some (Truth b)
scalar_of (constants.Number n) = Some (Number n)
scalar_of (constants.Words text) = Some (Words text)
scalar_of (constants.Id n) = Some (Id n)

-- the truth of a member beside nothing, or whether it equals what is wanted
abbrev pub truth_beside : Option (Option Scalar) → Option Scalar → Tri
truth_beside None = tri_of
truth_beside (Some wanted) = compared ops.Eq wanted

-- the value of a plan over a row
abbrev mutual
  pub meaning : plans.Plan → Values → Option Scalar
  meaning (plans.Any list) row = of_tri (any_of (map tri_of (meanings list row)))
  meaning (plans.All list) row = of_tri (all_of (map tri_of (meanings list row)))
  meaning (plans.Not' p t) row = of_tri (not_of (tri_of (meaning t row)))
  meaning (plans.Is' p t neg test) row = of_tri (negated neg (of_bool (passes test (meaning t row))))
  meaning (plans.Distinct' p l neg q r) row = of_tri (negated neg (of_bool (is_distinct (meaning l row) (meaning r row))))
  meaning (plans.Cmp' op p l q r) row = of_tri (compared op (meaning l row) (meaning r row))
  meaning (plans.Within' p l neg list) row = of_tri (negated neg (any_of (map (compared ops.Eq (meaning l row)) (meanings list row))))
  meaning (plans.Between' p l neg q low r high) row =
      of_tri (negated neg (all_of (compared ops.Ge (meaning l row) (meaning low row) ∷ compared ops.Le (meaning l row) (meaning high row) ∷ [])))
  meaning (plans.Like' p l neg pattern) row = of_tri (negated neg (fits_scalar pattern.items (meaning l row)))
  meaning (plans.Column place kind) row = read_cell kind (slice_index_or row place values.Null)
  meaning (plans.Read constant) row = scalar_of constant

  pub meanings : chains.Plans → Values → List (Option Scalar)
  meanings chains.End row = []
  meanings (chains.More' p first q rest) row = meaning first row ∷ meanings rest row
