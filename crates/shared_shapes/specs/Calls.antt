-- What the calls on a shared registry do.
use Rattle.std.specs.Prelude.{◌≡◌, ℕ, Bool, List, [], ◌∷◌, Option, Some, None}
use Rattle.std.specs.Ordering.{nat_cmp}
use Rattle.std.specs.FinMap.{FinMap}
use Rattle.std.specs.FinMap as fin
use Rattle.lock_events.specs.Written.{Written}
use Rattle.shape_base.specs.declared.limits.Limits.{Limits}
use Rattle.shape_base.specs.declared.registry_event.RegistryEvent.{RegistryEvent}
use Rattle.shape_base.specs.declared.registry_event.RegistryEvent.TheVariants.{Registered}
use Rattle.shape_base.specs.declared.served.Served.{Served}
use Rattle.shape_base.specs.declared.definition.TableDef.{TableDef}
use Rattle.shared_shapes.specs.declared.registry_data.RegistryData.{RegistryData}
use Rattle.shape_lock.specs.declared.start.ShapeStart.{ShapeStart}
use Rattle.shape_lock.specs.Passes.{Sight}
use Rattle.shape_registry.specs.ByHistory.{refusal_after}
use Rattle.shape_registry.specs.declared.refusal.Refusal.TheVariants as refusals
use Rattle.shared_shapes.specs.declared.started.Started.{Started}
use Rattle.shared_shapes.specs.declared.started.StartError.{StartError}
use Rattle.shared_shapes.specs.declared.started.StartError.TheVariants.{Exists, TooMany, NumbersSpent, OutOfMemory}
use Rattle.shared_shapes.specs.Events.{Place, began, place_in, events_of}
use Rattle.shared_shapes.specs.Board.{Kept}
use Rattle.shared_shapes.specs.Passes.{RegSight, StepsOn, Keeps, shapes_in}
use Rattle.shared_shapes.specs.Seats.{Seated}

-- ---- a registration

-- a shape is made with this test and these limits
abbrev pub StartsAs : {A : Type 0} → A → Limits → Option (ShapeStart A) → Type 0
StartsAs test limits None = ⊥
StartsAs test limits (Some x) = (x.test.value ≡ test) × (x.limits ≡ limits)

module _ {A : Type 0} where
  -- What is kept for a new shape and the seat of its owner are of one lock, made with this test and these limits, and no event was seen.
  pub record IsBorn (test : A) (limits : Limits) (slot : Kept A) (seat : Seated A) (k : Sight A) (w : Written Bool) : Type 0 where
    pub slot_is : place_in slot.pass slot.ready ≡ place_in k w
    pub seat_is : seat ≡ record { pass = k; right = Some w.of }
    pub new : (k.seen ≡ []) × (k.own ≡ [])
    pub starts : StartsAs test limits k.fixed

  -- A shape was registered, with the last transaction taken before, and the caller has a pass of it and the rights on it.
  pub record Registers (k k' : RegSight A) (seats seats' : FinMap nat_cmp (Seated A)) (identity : List ℕ) (table : ℕ) (test : A) (limits : Limits) (s : Started) : Type 0 where
    pub place : Place A
    pub pass : Sight A
    pub on : StepsOn k k' (began (Registered s.number identity table s.last) place ∷ [])
    pub seats_are : seats' ≡ fin.insert seats s.number (record { pass = pass; right = Some place.ready })
    pub lock : (pass.lock ≡ place.lock) × (pass.fixed ≡ place.about)
    pub new : (pass.seen ≡ []) × (pass.own ≡ [])
    pub starts : StartsAs test limits place.about

-- no number is given after these events, for this reason; want of memory comes free
abbrev pub IsStartError : ℕ → List RegistryEvent → List ℕ → StartError → Type 0
IsStartError limit es identity (Exists number) = refusal_after limit es identity ≡ Some (refusals.Exists number)
IsStartError limit es identity (TooMany live most) = refusal_after limit es identity ≡ Some (refusals.TooMany live most)
IsStartError limit es identity NumbersSpent = refusal_after limit es identity ≡ Some refusals.NumbersSpent
IsStartError limit es identity OutOfMemory = Unit {0}

module _ {A : Type 0} where
  -- No shape was registered: by the events that the pass has seen afterwards, or for want of memory.
  abbrev pub IsUnstarted : RegSight A → RegSight A → List ℕ → StartError → Type 0
  IsUnstarted k k' identity (Exists number) = StepsOn k k' [] × IsStartError (shapes_in k'.fixed) (events_of k'.seen) identity (Exists number)
  IsUnstarted k k' identity (TooMany live most) = StepsOn k k' [] × IsStartError (shapes_in k'.fixed) (events_of k'.seen) identity (TooMany live most)
  IsUnstarted k k' identity NumbersSpent = StepsOn k k' [] × IsStartError (shapes_in k'.fixed) (events_of k'.seen) identity NumbersSpent
  IsUnstarted k k' identity OutOfMemory = Keeps k k'

-- ---- a new registry

-- the data of a registry's lock are those with which it was started
abbrev pub IsStartedWith : Limits → List Served → List TableDef → List ℕ → Option RegistryData → Type 0
IsStartedWith limits tables definitions run None = ⊥
IsStartedWith limits tables definitions run (Some d) = (d.limits ≡ limits) × (d.tables.value ≡ tables) × (d.definitions.value ≡ definitions) × (d.run.value ≡ run)
