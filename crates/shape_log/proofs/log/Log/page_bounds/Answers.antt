use Rattle.std.proofs.Common.{sym, ap, subst, ◌∙◌, List, rules}
use Rattle.std.specs.List.Sorted.{IsPartitionedBy}
use Rattle.std.proofs.lemmas.List.Sorted.{IsPartitionPoint-from_clause}
use Rattle.shape_base.specs.declared.entry.Entry.{Entry}
use Rattle.shape_base.specs.declared.offset.Offset.TheVariants.{At}
use Rattle.shape_log.specs.Logged.{Logged, IsBound}
use Rattle.shape_log.proofs.Bounds.{is_upto, partitioned, bound_at}
use Rattle.shape_log.proofs.log.Log.page_bounds.Goals as goal

pub returns-clause-found : goal.returns-clause-found
returns-clause-found c =
    let o = c.args.offset in
    let n = c.partition_point-place.result in
    let items = c.as_slice-entries.result.now in
    let parted = subst (λ (es : List Entry). IsPartitionedBy (is_upto o) es) (sym c.as_slice-entries.ensures.value) (partitioned o (At 0 0) c.self.inside.entries.items c.self.invariant.rises) in
    subst (λ (es : List Entry). IsBound es o n) (c.as_slice-entries.ensures.value ∙ ap (λ (l : Logged). l.entries) c.self.view_is)
    (bound_at o items n c.partition_point-place.ensures.bound (IsPartitionPoint-from_clause (is_upto o) items n c.partition_point-place.ensures.partitioned parted (λ a r f k. search rules)))
