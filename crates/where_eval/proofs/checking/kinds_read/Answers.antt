use Rattle.std.proofs.Common.{slice_set, ap, ◌∙◌}
use Rattle.where_eval.proofs.Seeing.{read_column, read_other}
use Rattle.where_eval.proofs.checking.kinds_read.Goals as goal

pub loop-leaf-preserved-in-Column : goal.loop-leaf-preserved-in-Column
loop-leaf-preserved-in-Column c =
    read_column c.args.columns.now c.args.leaves.now c.loop-leaf.left.now c.in-Some.rest.now c.loop-leaf.kinds.items c.put_kind.new.kinds.items c.in-Some.leaf.now c.in-Column.place c.loop-leaf.invariant c.in-Some.ensures.cases.0 c.in-Column.is
    (c.put_kind.ensures ∙ ap (λ k. slice_set c.loop-leaf.kinds.items c.in-Column.place k) c.kind_at.ensures)

pub loop-leaf-preserved : goal.loop-leaf-preserved
loop-leaf-preserved c = read_other c.args.columns.now c.args.leaves.now c.loop-leaf.left.now c.in-Some.rest.now c.loop-leaf.kinds.items c.in-Some.leaf.now c.loop-leaf.invariant c.in-Some.ensures.cases.0 c.in_default-leaf.not-Column
