use Rattle.std.proofs.Common.{◌≡◌, drop}
use Rattle.drill_work.specs.Notes.{noted}
use Rattle.drill_work.proofs.notes.take_notes.Given as goal

-- the exchanges that are left lead to the same notes
abbrev pub invariant-loop-exchange : goal.invariant-loop-exchange
invariant-loop-exchange l = noted l.drill l.notes (drop l.exchange-index l.exchange-items) ≡ noted l.drill l.fn.notes l.under_way
