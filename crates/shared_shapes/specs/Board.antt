-- What a registry under its lock stands for.
use Rattle.std.specs.Prelude.{◌≡◌, ℕ, Bool, true, List, [], ◌∷◌, Option, Some, IfSome, IsSome, map}
use Rattle.std.specs.FinMap as fin
use Rattle.lock_events.specs.Written.{Written}
use Rattle.shape_base.specs.RegistryHistory.{RegistryStart, Stands, Taken, transactions, had_ready}
use Rattle.shape_json.specs.ShapeHistory.{snapshot_in}
use Rattle.shape_lock.specs.Passes.{Sight, IsFedBy}
use Rattle.shape_registry.specs.Registry.{WithKept}
use Rattle.shared_shapes.specs.declared.registry_data.RegistryData.{RegistryData}
use Rattle.shared_shapes.specs.Events.{Noted, events_of, place_of, place_in}

-- What is kept for a live number: a pass of its shape, what the list of its readiness said, and the list with which it is fed, until the ingester has that
pub record Kept (A : Type 0) : Type 0 where
  pub pass : Sight A
  pub ready : Written Bool
  pub feed : Option (Written ℕ)

-- what the registry's history starts from
abbrev pub start_of : RegistryData → RegistryStart
start_of d = record { run = d.run.value; limit = d.limits.shapes; catalog = d.definitions.value }

-- the LSNs of the transactions that were taken
abbrev pub taken_lsns : {A : Type 0} → List (Noted A) → List ℕ
taken_lsns es = map (λ (t : Taken). t.lsn) (transactions (events_of es))

-- a list that nothing was written to yet feeds the shape
abbrev pub IsUnfed : {A : Type 0} → Sight A → Written ℕ → Type 0
IsUnfed k w = IsFedBy k.fixed w × (w.list ≡ [])

module _ {A : Type 0} where
  -- what is kept for a number is of the shape that was registered under it; where the number is ready, the snapshot was seen, and the list has its mark
  pub record IsKept (es : List (Noted A)) (number : ℕ) (k : Kept A) : Type 0 where
    pub place : place_of es number ≡ Some (place_in k.pass k.ready)
    pub told : had_ready (events_of es) number ≡ true → IsSome (snapshot_in k.pass.seen)
    pub marked : had_ready (events_of es) number ≡ true → k.ready.list ≡ true ∷ []

  -- The registry stands for the events, keeps what belongs to their shapes, and its list has the LSNs of the transactions that it took.
  pub record IsBoard (about : RegistryData) (registry : WithKept (Kept A)) (fed : Written ℕ) (given : ℕ) (f : Option RegistryData) (es : List (Noted A)) : Type 0 where
    pub fixed : f ≡ Some about
    pub stands : Stands (start_of about) (events_of es) registry.state
    pub count : given ≡ registry.state.given
    pub same_feed : fed.of ≡ about.feed.value.of
    pub fed_is : fed.list ≡ taken_lsns es
    pub kept : (number : ℕ) → IfSome (fin.get registry.kept number) (IsKept es number)
