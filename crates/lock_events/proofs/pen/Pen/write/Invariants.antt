use Rattle.std.specs.Prelude.{Some}
use Rattle.lock_events.proofs.pen.Pen.write.Given as goal

abbrev pub ghosts-write_as : goal.ghosts-write_as
ghosts-write_as g a = record { event = Some a.event.now.value }
