-- What contracts see of a step.
use Rattle.std.specs.Prelude.{Bool, Option, None, Some}
use Rattle.std.specs.declared.snapshot.Snapshot.{Snapshot}
use Rattle.lock_events.specs.Written.{Written}
use Rattle.shape_base.specs.declared.registry_event.RegistryEvent.{RegistryEvent}
use Rattle.shape_base.specs.declared.registry_event.RegistryEvent.TheVariants as events
use Rattle.shape_lock.specs.Passes.{Sight}
use Rattle.shared_shapes.specs.declared.step.Change.{Change}
use Rattle.shared_shapes.specs.declared.step.Change.TheVariants.{Registered, Ready, Removed, Redefined}
use Rattle.shared_shapes.specs.Events.{Noted, plain, began, place_in}

abbrev pub event_of : Change → RegistryEvent
event_of (Registered number identity table last) = events.Registered number identity.value table last
event_of (Ready number) = events.Ready number
event_of (Removed number cause) = events.Removed number cause
event_of (Redefined definition) = events.Redefined definition.value

abbrev pub noted : {A : Type 0} → Change → Option (Snapshot (Sight A) × Snapshot (Written Bool)) → Noted A
noted change None = plain (event_of change)
noted change (Some p) = began (event_of change) (place_in p.0.value p.1.value)
