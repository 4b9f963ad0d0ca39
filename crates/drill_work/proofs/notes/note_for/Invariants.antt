use Rattle.std.proofs.Common.{◌≡◌, drop}
use Rattle.drill_work.specs.Notes.{note_for}
use Rattle.drill_work.proofs.notes.note_for.Given as goal

-- what is left gives the same answer
abbrev pub invariant-loop-note : goal.invariant-loop-note
invariant-loop-note l = note_for l.exchange (drop l.note-index l.note-items) ≡ note_for l.exchange l.notes
