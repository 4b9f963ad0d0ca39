use Rattle.std.specs.Prelude.{Some}
use Rattle.lock_events.proofs.give.give_with.Given as goal

abbrev pub ghosts-give_as : goal.ghosts-give_as
ghosts-give_as g a = record { event = Some a.event.now.value }
