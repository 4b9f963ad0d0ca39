use Rattle.std.proofs.Common.{◌≡◌, drop}
use Rattle.drill_work.specs.Notes.{has_note}
use Rattle.drill_work.proofs.notes.has_note.Given as goal

-- what is left gives the same answer
abbrev pub invariant-loop-note : goal.invariant-loop-note
invariant-loop-note l = has_note (drop l.note-index l.note-items) l.exchange ≡ has_note l.notes l.exchange
