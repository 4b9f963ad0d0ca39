use Rattle.std.proofs.Common.{◌≡◌, ◌≤◌, ◌<◌, arith, sym, ap, ◌∙◌}
use Rattle.where_grammar.specs.Tree.{TreeAnd}
use Rattle.where_parser.specs.declared.expr.Exprs.{size-Exprs}
use Rattle.where_parser.specs.contracts.expr.Expr.TheKnot.{falls-Exprs}
use Rattle.where_parser.specs.View.{tree_of, trees_of}
use Rattle.where_eval.proofs.Chains.{leaves_next}
use Rattle.where_eval.proofs.leaves.+leaves.Goals as goal

pub add_members-loop-left-preserved : goal.add_members-loop-left-preserved
add_members-loop-left-preserved t c =
    let cut : trees_of c.loop-left.left.now ≡ TreeAnd (tree_of c.deref.result.now) (trees_of c.deref-left.result.now) =
    ap trees_of c.in-More.is ∙ ap (λ e. TreeAnd (tree_of e) (trees_of c.in-More.rest.value)) (sym c.deref.ensures) ∙ ap (λ r. TreeAnd (tree_of c.deref.result.now) (trees_of r)) (sym c.deref-left.ensures) in
    let shallow : size-Exprs c.deref-left.result.now ≤ size-Exprs c.args.list.now = let f = falls-Exprs c.loop-left.left.now (size-Exprs c.args.list.now) c.loop-left.invariant.1 in let g = rw c.in-More.is at f in let h : size-Exprs c.in-More.rest.value < size-Exprs c.args.list.now = g.1.0 in omega (arith, ap size-Exprs c.deref-left.ensures) in
    (leaves_next c.args.columns.now c.loop-left.out.items c.add_leaves.new.out.items (trees_of c.loop-left.left.now) (tree_of c.deref.result.now) (trees_of c.deref-left.result.now) c.loop-left.invariant.0 cut c.in_ok-add_leaves.ensures, shallow)
