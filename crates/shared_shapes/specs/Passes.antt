-- What a step on the registry's lock tells the holder of a pass.
use Rattle.std.specs.Prelude.{◌≡◌, ◌<◌, ℕ, Bool, true, false, List, [], ◌∷◌, ◌++◌, Option, Some, None, length}
use mathlib.Core.List.{IsPrefix}
use Rattle.front_lock.specs.Passes.{Known, mine, IsSameLock, IsSameShare}
use Rattle.shape_base.specs.declared.cause.Cause.{Cause}
use Rattle.shape_base.specs.declared.registry_event.RegistryEvent.TheVariants.{Removed, Ready}
use Rattle.shape_base.specs.RegistryHistory.{IsLegal}
use Rattle.shared_shapes.specs.declared.registry_data.RegistryData.{RegistryData}
use Rattle.shared_shapes.specs.Events.{Noted, plain, events_of}

-- what the holder of a pass of a registry knows
abbrev pub RegSight : Type 0 → Type 0
RegSight A = Known (Noted A) (Option RegistryData)

-- the table is one of the served ones
abbrev pub IsServed : Option RegistryData → ℕ → Type 0
IsServed None table = ⊥
IsServed (Some d) table = table < length d.definitions.value

-- no more may live than these limits say
abbrev pub shapes_in : Option RegistryData → ℕ
shapes_in None = 0
shapes_in (Some d) = d.limits.shapes

module _ {A : Type 0} where
  -- the history is legal
  abbrev pub IsLegalFor : Option RegistryData → List (Noted A) → Type 0
  IsLegalFor None es = ⊥
  IsLegalFor (Some d) es = IsLegal d.limits.shapes (events_of es)

  -- The second is the first after steps of its holder, which made these events: what it has seen begins with what the first had, and is legal.
  pub record StepsOn (k k' : RegSight A) (made : List (Noted A)) : Type 0 where
    pub lock : IsSameLock k k'
    pub share : IsSameShare k k'
    pub seen : IsPrefix k.seen k'.seen
    pub mine : mine k' ≡ mine k ++ made
    pub legal : IsLegalFor k'.fixed k'.seen

  -- The second is the first, and may have seen more.
  pub record Keeps (k k' : RegSight A) : Type 0 where
    pub lock : IsSameLock k k'
    pub share : IsSameShare k k'
    pub seen : IsPrefix k.seen k'.seen
    pub mine : mine k' ≡ mine k

  -- an event, where there is one
  abbrev pub removed_if : Bool → ℕ → Cause → List (Noted A)
  removed_if true number cause = plain (Removed number cause) ∷ []
  removed_if false number cause = []

  abbrev pub ready_if : Bool → ℕ → List (Noted A)
  ready_if true number = plain (Ready number) ∷ []
  ready_if false number = []

  -- the number became ready, or was removed where there is a cause
  abbrev pub settled_if : Bool → ℕ → Option Cause → List (Noted A)
  settled_if wrote number None = ready_if wrote number
  settled_if wrote number (Some cause) = removed_if wrote number cause
