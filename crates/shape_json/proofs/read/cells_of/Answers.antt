use Rattle.std.proofs.Common.{◌≡◌, [], ◌∷◌, ◌++◌, List, sym, ap, ◌∙◌, append_assoc, append-nil, string_bytes}
use Rattle.serde_json.specs.View.{view, members_view}
use Rattle.shape_base.specs.declared.entry.Cell.{Cell}
use Rattle.shape_json.proofs.Reading.{next_cell, no_cell}
use Rattle.shape_json.proofs.read.cells_of.Goals as goal

pub loop-name-preserved : goal.loop-name-preserved
loop-name-preserved c all e =
    let cells = c.loop-name.cells.items in
    let kept = c.loop-name.invariant all e in
    let next = next_cell kept.0 (string_bytes c.in-Some.name.now) (view c.in-Some.value.now) (members_view c.next.new.self) (sym (ap members_view c.in-Some.ensures.steps) ∙ kept.2) in
    let same : c.in-Ok.cell ≡ next.cell = c.in-Ok.ensures next.cell (c.as_str.ensures.value ∙ next.named) next.valued in (
      next.cells,
      kept.1 ∙ ap (λ (l : List Cell). cells ++ l) next.is ∙ sym (append_assoc cells (next.cell ∷ []) next.cells)
          ∙ ap (λ (l : List Cell). l ++ next.cells) (ap (λ (x : Cell). cells ++ x ∷ []) (sym same) ∙ sym c.in_ok-push-in-Ok.ensures.items),
      next.after,
    )

pub returns-in-Err : goal.returns-in-Err
returns-in-Err c all e =
    let kept = c.loop-name.invariant all e in
    let next = next_cell kept.0 (string_bytes c.in-Some.name.now) (view c.in-Some.value.now) (members_view c.next.new.self) (sym (ap members_view c.in-Some.ensures.steps) ∙ kept.2) in
    c.in-Err.ensures next.cell (c.as_str.ensures.value ∙ next.named) next.valued

pub returns : goal.returns
returns c all e =
    let cells = c.loop-name.cells.items in
    let kept = c.loop-name.invariant all e in
    c.from_vec.ensures ∙ sym (kept.1 ∙ ap (λ (l : List Cell). cells ++ l) (no_cell kept.0 (sym (ap members_view c.in-None.ensures.steps.0) ∙ kept.2)) ∙ append-nil cells)
