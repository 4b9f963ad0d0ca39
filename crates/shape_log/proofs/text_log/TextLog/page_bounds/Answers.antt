use Rattle.std.proofs.Common.{sym, ap, subst, ◌∙◌, List, rules}
use Rattle.std.specs.List.Sorted.{IsPartitionedBy}
use Rattle.std.proofs.lemmas.List.Sorted.{IsPartitionPoint-from_clause}
use Rattle.shape_base.specs.declared.offset.Offset.{Offset}
use Rattle.shape_base.specs.declared.offset.Offset.TheVariants.{At}
use Rattle.shape_log.specs.Texts.{TextLogged, count_upto}
use Rattle.shape_log.proofs.Rising.{is_upto, partitioned, counted}
use Rattle.shape_log.proofs.text_log.TextLog.page_bounds.Goals as goal

pub returns-clause-found : goal.returns-clause-found
returns-clause-found c =
    let o = c.args.offset in
    let n = c.partition_point-place.result in
    let items = c.as_slice-offsets.result.now in
    let parted = subst (λ (xs : List Offset). IsPartitionedBy (is_upto o) xs) (sym c.as_slice-offsets.ensures.value) (partitioned o (At 0 0) c.self.inside.offsets.items c.self.invariant.rises) in
    let point = IsPartitionPoint-from_clause (is_upto o) items n c.partition_point-place.ensures.partitioned parted (λ a r f k. search rules) in
    counted o items n c.partition_point-place.ensures.bound point.0 point.1
    ∙ ap (count_upto o) (c.as_slice-offsets.ensures.value ∙ ap (λ (l : TextLogged). l.offsets) c.self.view_is)
