use Rattle.std.proofs.Common.{◌≡◌, ◌≤◌, ◌∷◌, map}
use Rattle.where_eval.specs.declared.plan.Plans.{size-Plans}
use Rattle.where_eval.specs.Logic.{any_of, all_of}
use Rattle.where_eval.specs.Scalars.{tri_of}
use Rattle.where_eval.specs.Data.{wish}
use Rattle.where_eval.specs.Plans.{meanings, truth_beside}
use Rattle.where_eval.proofs.eval.+eval.Given as goal

-- with what is found, what is left gives the same truth, and is no deeper
abbrev pub invariant-any-loop-left : goal.invariant-any-loop-left
invariant-any-loop-left l =
    (any_of (l.found ∷ map (truth_beside (wish l.wanted)) (meanings l.left l.row)) ≡ any_of (map (truth_beside (wish l.wanted)) (meanings l.list l.row))) × (size-Plans l.left ≤ size-Plans l.list)

abbrev pub invariant-all-loop-left : goal.invariant-all-loop-left
invariant-all-loop-left l =
    (all_of (l.found ∷ map tri_of (meanings l.left l.row)) ≡ all_of (map tri_of (meanings l.list l.row))) × (size-Plans l.left ≤ size-Plans l.list)
