use Rattle.std.proofs.Common.{◌≡◌, length}
use Rattle.where_eval.specs.Leaves.{unknown_from}
use Rattle.where_eval.proofs.leaves.first_unknown.Given as goal

abbrev pub invariant-loop-leaf : goal.invariant-loop-leaf
invariant-loop-leaf l = unknown_from l.number l.left ≡ unknown_from 0 l.leaves

abbrev pub decreases-loop-leaf : goal.decreases-loop-leaf
decreases-loop-leaf l = length l.left
