use Rattle.std.proofs.Common.{◌≡◌, ◌≤◌, ◌+◌, ◌*◌, max}
use Rattle.where_parser.specs.declared.expr.Expr.{size-Expr}
use Rattle.where_parser.specs.declared.expr.Exprs.{size-Exprs}
use Rattle.where_parser.specs.View.{trees_of}
use Rattle.where_eval.specs.Leaves.{listed, next_all}
use Rattle.where_eval.specs.Faults.{faults, bad_literal}
use Rattle.where_eval.specs.Passing.{literal_or}
use Rattle.where_eval.proofs.typing.+typing.Given as goal

-- what is left has the same faults, and is no deeper
abbrev pub invariant-members-loop-left : goal.invariant-members-loop-left
invariant-members-loop-left l =
    (faults l.columns l.next (trees_of l.left) ≡ faults l.columns l.number (trees_of l.list))
    × (next_all l.next (trees_of l.left) ≡ next_all l.number (trees_of l.list))
    × (literal_or l.bad (bad_literal l.kind l.next (listed (trees_of l.left))) ≡ bad_literal l.kind l.number (listed (trees_of l.list)))
    × (size-Exprs l.left ≤ size-Exprs l.list)

-- how deep the parts are
abbrev pub decreases-members : goal.decreases-members
decreases-members l = 3 * size-Exprs l.list.now + 1

abbrev pub decreases-truths : goal.decreases-truths
decreases-truths l = 3 * size-Exprs l.list.now + 2

abbrev pub decreases-denied : goal.decreases-denied
decreases-denied l = 3 * size-Expr l.inner.now + 1

abbrev pub decreases-tested : goal.decreases-tested
decreases-tested l = 3 * size-Expr l.left.now + 1

abbrev pub decreases-sides : goal.decreases-sides
decreases-sides l = 3 * max (size-Expr l.left.now) (size-Expr l.right.now) + 1

abbrev pub decreases-within : goal.decreases-within
decreases-within l = 3 * max (size-Expr l.left.now) (size-Exprs l.list.now) + 2

abbrev pub decreases-between : goal.decreases-between
decreases-between l = 3 * max (size-Expr l.left.now) (max (size-Expr l.low.now) (size-Expr l.high.now)) + 1

abbrev pub decreases-like : goal.decreases-like
decreases-like l = 3 * size-Expr l.left.now + 1

abbrev pub decreases-fault : goal.decreases-fault
decreases-fault l = 3 * size-Expr l.expr.now
