use Rattle.std.proofs.Common.{◌≡◌, ◌≤◌, ◌++◌}
use Rattle.where_parser.specs.declared.expr.Exprs.{size-Exprs}
use Rattle.where_parser.specs.View.{trees_of}
use Rattle.where_eval.specs.Leaves.{all_leaves}
use Rattle.where_eval.proofs.leaves.+leaves.Given as goal

-- what is left adds the other leaves, and is no deeper
abbrev pub invariant-add_members-loop-left : goal.invariant-add_members-loop-left
invariant-add_members-loop-left l =
    (l.out.items ++ all_leaves l.columns (trees_of l.left) ≡ l.initial.out.items ++ all_leaves l.initial.columns (trees_of l.initial.list)) × (size-Exprs l.left ≤ size-Exprs l.list)
