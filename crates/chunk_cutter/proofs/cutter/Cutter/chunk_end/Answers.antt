use Rattle.std.proofs.Common.{◌≡◌, ◌≤◌, List, ℕ, length, true, false, sym, ap, subst, ◌∙◌, rules}
use Rattle.std.specs.Prelude.{nat_le, slice_get}
use Rattle.std.specs.List.Sorted.{IsPartitionedBy, IsPartitionPoint}
use Rattle.std.proofs.lemmas.List.Sorted.{IsPartitionPoint-from_clause}
use Rattle.chunk_cutter.specs.Cut.{Cut}
use Rattle.chunk_cutter.proofs.Cutting.{all_parted, end_found}
use Rattle.chunk_cutter.proofs.cutter.Cutter.chunk_end.Goals as goal

pub returns : goal.returns
returns c sizes has =
    let index = c.args.index in
    let n = c.partition_point-place.result in
    let items = c.as_slice-ends.result.now in
    let is : items ≡ c.args.self.now.ends = c.as_slice-ends.ensures.value ∙ ap (λ (cut : Cut). cut.ends) c.self.view_is in
    let parted = subst (λ (es : List ℕ). IsPartitionedBy (λ end. nat_le end index) es) (sym is) (all_parted c.args.self.now sizes index has) in
    let point = IsPartitionPoint-from_clause (λ end. nat_le end index) items n c.partition_point-place.ensures.partitioned parted (λ a r f k. search rules) in
    c.end_at.ensures ∙ ap (λ (es : List ℕ). slice_get es n) is
    ∙ end_found c.args.self.now sizes index n has (subst (λ (es : List ℕ). n ≤ length es) is c.partition_point-place.ensures.bound)
    (subst (λ (es : List ℕ). IsPartitionPoint (λ end. nat_le end index ≡ true) (λ end. nat_le end index ≡ false) es n) is point)
