use Rattle.std.proofs.Common.{◌≡◌, ◌++◌, drop}
use Rattle.drill_work.specs.Notes.{rows_of}
use Rattle.drill_work.proofs.notes.rows_of.Given as goal

-- the rows so far, and those that are left
abbrev pub invariant-loop-item : goal.invariant-loop-item
invariant-loop-item l = l.rows ++ rows_of (drop l.item-index l.item-items) ≡ rows_of l.items
