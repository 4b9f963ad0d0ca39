use Rattle.std.proofs.Common.{◌∙◌, sym, ap, List, ℕ}
use Rattle.std.specs.FinMap as fin
use Rattle.shape_base.specs.declared.entry.Cell.{Cell}
use Rattle.shape_base.specs.Maps.{map_in}
use Rattle.shape_base.proofs.Lemmas.{insert_in}
use Rattle.shape_model.proofs.Maps.{insert_done, insert_none}
use Rattle.shape_model.proofs.folds.inserted.Goals as goal

pub returns-then-contains_key : goal.returns-then-contains_key
returns-then-contains_key c = insert_none c.args.shown.now c.args.entry.now.key c.args.entry.now.cells (sym c.contains_key.ensures ∙ c.if-contains_key.true)

pub returns : goal.returns
returns c =
    insert_done c.args.shown.now c.insert.new.self c.args.entry.now.key c.args.entry.now.cells (sym c.contains_key.ensures ∙ c.if-contains_key.false)
    (insert_in c.args.shown.now c.insert.new.self c.in_ok-key.key c.in_ok-cells.cells c.in_ok-_before.ensures.updates.0
    ∙ ap (λ (k : List ℕ). fin.insert (map_in c.args.shown.now) k c.in_ok-cells.cells) c.in_ok-key.ensures
    ∙ ap (λ (v : List Cell). fin.insert (map_in c.args.shown.now) c.args.entry.now.key v) c.in_ok-cells.ensures)
