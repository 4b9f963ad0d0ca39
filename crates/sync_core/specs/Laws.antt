-- A law over the readings of events.
use Rattle.std.specs.Prelude.{◌≡◌}
use Rattle.core_events.specs.declared.event.Event.{Event}
use Rattle.core_law.specs.Situation.{Options}
use Rattle.sync_core.specs.Reading.{Reading}
use Rattle.sync_core.specs.Run.{Situation, IsRead}

-- An event comes to one thing: what it is read as in a situation is determined.
abbrev pub ReadingsTell : Type 0
ReadingsTell = (o : Options) (s : Situation) (e : Event) (a b : Reading) → IsRead o s e a → IsRead o s e b → a ≡ b
