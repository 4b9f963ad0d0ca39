use Rattle.std.proofs.Common.{◌≡◌, ◌≤◌, ◌+◌, ◌*◌, ◌++◌, map, max}
use Rattle.shape_base.specs.Tables.{Values}
use Rattle.where_parser.specs.declared.expr.Expr.{size-Expr}
use Rattle.where_parser.specs.declared.expr.Exprs.{size-Exprs}
use Rattle.where_parser.specs.View.{trees_of}
use Rattle.where_eval.specs.Plans.{meaning}
use Rattle.where_eval.specs.Truth.{values_of}
use Rattle.where_eval.proofs.compile.+compile.Given as goal

-- what is left has the other values, and is no deeper
abbrev pub invariant-members-loop-left : goal.invariant-members-loop-left
invariant-members-loop-left l =
    ((row : Values) → map (λ p. meaning p row) l.members.items ++ values_of l.columns row l.kind (trees_of l.left) ≡ values_of l.columns row l.kind (trees_of l.list))
    × (size-Exprs l.left ≤ size-Exprs l.list)

-- how deep the parts are
abbrev pub decreases-members : goal.decreases-members
decreases-members l = 4 * size-Exprs l.list.now + 1

abbrev pub decreases-compile_all : goal.decreases-compile_all
decreases-compile_all l = 4 * size-Exprs l.list.now + 2

abbrev pub decreases-boxed : goal.decreases-boxed
decreases-boxed l = 4 * size-Expr l.expr.now + 1

abbrev pub decreases-tested : goal.decreases-tested
decreases-tested l = 4 * size-Expr l.left.now + 2

abbrev pub decreases-distinct : goal.decreases-distinct
decreases-distinct l = 4 * max (size-Expr l.left.now) (size-Expr l.right.now) + 2

abbrev pub decreases-compared : goal.decreases-compared
decreases-compared l = 4 * max (size-Expr l.left.now) (size-Expr l.right.now) + 2

abbrev pub decreases-within : goal.decreases-within
decreases-within l = 4 * max (size-Expr l.left.now) (size-Exprs l.list.now) + 3

abbrev pub decreases-between : goal.decreases-between
decreases-between l = 4 * max (size-Expr l.left.now) (max (size-Expr l.low.now) (size-Expr l.high.now)) + 2

abbrev pub decreases-compile : goal.decreases-compile
decreases-compile l = 4 * size-Expr l.expr.now
