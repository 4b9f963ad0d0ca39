use Rattle.std.proofs.Common.{refl, ◌∙◌, ◌++◌, List, sym, ap, map}
use Rattle.std.proofs.lemmas.List.{append-nil}
use Rattle.std.specs.FinMap as fin
use Rattle.std.specs.BTreeMap.{IsOrdered}
use Rattle.shape_base.specs.Shape.{Keyed, Map}
use Rattle.shape_base.proofs.Lemmas.{text_cmp, entries_in}
use Rattle.shape_base.specs.declared.entry.KeyedRow.{KeyedRow}
use Rattle.fold_client.specs.Rows.{keyed_row}
use Rattle.fold_client.proofs.Folding.{row_more}
use Rattle.fold_client.proofs.rows.FoldedRows.rows.Goals as goal

pub loop-key-init : goal.loop-key-init
loop-key-init c =
    let m = c.in_ok-ordered.ordered in
    let ordered : IsOrdered text_cmp m = assumption (c.into_iter-key-iterator.ensures.into_iter_gives) in
    ap (λ (xs : List KeyedRow). xs ++ map keyed_row c.into_iter-key-iterator.result) c.new-made.ensures
    ∙ ap (map keyed_row) (c.into_iter-key-iterator.ensures.into_iter_gives.0 ∙ sym (entries_in m ordered) ∙ ap (λ (n : Map). fin.entries n) c.in_ok-ordered.ensures)

pub loop-key-preserved : goal.loop-key-preserved
loop-key-preserved c = ap (λ (xs : List KeyedRow). xs ++ map keyed_row c.next.new.self) (c.in_ok-push.ensures).ok ∙ row_more c.loop-key.made c.loop-key.key-iterator c.next.new.self (c.in-Some.key, c.in-Some.cells) c.in-Some.key c.in-Some.cells _ c.in-Some.ensures.steps refl refl c.loop-key.invariant

pub returns : goal.returns
returns c = sym (append-nil c.loop-key.made) ∙ ap (λ (es : List Keyed). c.loop-key.made ++ map keyed_row es) (sym (c.in-None.ensures).steps.0) ∙ c.loop-key.invariant
