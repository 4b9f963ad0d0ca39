use Rattle.std.proofs.Common.{length}
use Rattle.where_eval.proofs.Seeing.{IsReadSoFar}
use Rattle.where_eval.proofs.checking.kinds_read.Given as goal

-- what is read of the leaves before those that are left
abbrev pub invariant-loop-leaf : goal.invariant-loop-leaf
invariant-loop-leaf l = IsReadSoFar l.columns l.leaves l.left l.kinds.items

abbrev pub decreases-loop-leaf : goal.decreases-loop-leaf
decreases-loop-leaf l = length l.left
