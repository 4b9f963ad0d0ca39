-- The history of a registry that threads share: its events, each with the place of the shape that a registration brings.
use Rattle.std.specs.Prelude.{ℕ, Bool, List, [], ◌∷◌, Option, None, Some, map, if◌then◌else◌}
use Rattle.atomic_table.specs.Seated.{TableId}
use Rattle.lock_events.specs.Written.{Written}
use Rattle.shape_base.specs.declared.registry_event.RegistryEvent.{RegistryEvent}
use Rattle.shape_base.specs.RegistryHistory.{registers}
use Rattle.shape_lock.specs.declared.start.ShapeStart.{ShapeStart}
use Rattle.shape_lock.specs.Passes.{Sight}

-- Where a shape lives: its lock, the data of that lock, and the list that gets a mark when its number becomes ready
pub record Place (A : Type 0) : Type 0 where
  pub lock : TableId
  pub about : Option (ShapeStart A)
  pub ready : TableId

-- An event of the registry. A registration has the place of its shape
pub record Noted (A : Type 0) : Type 0 where
  pub event : RegistryEvent
  pub shape : Option (Place A)

module _ {A : Type 0} where
  abbrev pub plain : RegistryEvent → Noted A
  plain e = record { event = e; shape = None }

  abbrev pub began : RegistryEvent → Place A → Noted A
  began e p = record { event = e; shape = Some p }

  -- the place of a shape, by a pass of it and the list that gets its mark
  abbrev pub place_in : Sight A → Written Bool → Place A
  place_in k w = record { lock = k.lock; about = k.fixed; ready = w.of }

  abbrev pub events_of : List (Noted A) → List RegistryEvent
  events_of es = map (λ (e : Noted A). e.event) es

  -- the place of the shape that was registered under a number
  abbrev pub place_of : List (Noted A) → ℕ → Option (Place A)
  place_of [] number = None
  place_of (e ∷ es) number = if registers number e.event then e.shape else place_of es number
