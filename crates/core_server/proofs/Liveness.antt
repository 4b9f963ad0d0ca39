-- How a number stands.
use Rattle.std.proofs.Common.{◌≡◌, ℕ, Bool, true, false, not, ◌&&◌, List, refl}
use Rattle.std.specs.Bool.{if◌then◌else◌}
use Rattle.shape_base.specs.declared.registry_event.RegistryEvent.{RegistryEvent}
use Rattle.shape_base.specs.RegistryHistory.{is_live, is_starting, had_ready}
use Rattle.shape_registry.specs.ByHistory.{standing_after}
use Rattle.shape_registry.specs.declared.standing.Standing.{Standing}
use Rattle.shape_registry.specs.declared.standing.Standing.TheVariants as standings

abbrev pub live_by : Standing → Bool
live_by standings.Starting = true
live_by standings.Ready = true
live_by standings.NotLive = false

abbrev pub starting_by : Standing → Bool
starting_by standings.Starting = true
starting_by standings.Ready = false
starting_by standings.NotLive = false

pub live_is : (es : List RegistryEvent) (n : ℕ) → live_by (standing_after es n) ≡ is_live es n
live_is es n = pick (is_live es n) (had_ready es n)
  where
    pick : (a b : Bool) → live_by (if a then (if b then standings.Ready else standings.Starting) else standings.NotLive) ≡ a
    pick true true = refl
    pick true false = refl
    pick false b = refl

pub starting_is : (es : List RegistryEvent) (n : ℕ) → starting_by (standing_after es n) ≡ is_starting es n
starting_is es n = pick (is_live es n) (had_ready es n)
  where
    pick : (a b : Bool) → starting_by (if a then (if b then standings.Ready else standings.Starting) else standings.NotLive) ≡ (a && not b)
    pick true true = refl
    pick true false = refl
    pick false b = refl
