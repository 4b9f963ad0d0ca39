use Rattle.std.proofs.Common.{◌≡◌}
use Rattle.where_parser.specs.declared.expr.Exprs.{size-Exprs}
use Rattle.where_parser.specs.View.{trees_of}
use Rattle.where_eval.specs.Leaves.{listed}
use Rattle.where_eval.specs.Kinds.{common}
use Rattle.where_eval.proofs.kinds.list_kind.Given as goal

abbrev pub invariant-loop-left : goal.invariant-loop-left
invariant-loop-left l = common l.columns (listed (trees_of l.left)) ≡ common l.columns (listed (trees_of l.list))

abbrev pub decreases-loop-left : goal.decreases-loop-left
decreases-loop-left l = size-Exprs l.left
