-- What is found for a request, how a number stands, and why no number is given, by the history of a registry.
use Rattle.std.specs.Prelude.{ℕ, ◌-◌, ◌^◌, ◌==◌, if◌then◌else◌, List, length, Option, None, Some}
use Rattle.shape_base.specs.declared.ask.Named.{Named}
use Rattle.shape_base.specs.declared.ask.Named.TheVariants.{Absent, Known, Strange}
use Rattle.shape_base.specs.declared.registry_event.RegistryEvent.{RegistryEvent}
use Rattle.shape_base.specs.RegistryHistory.{registrations, live_registrations, is_live, had_ready, taken_before, live_under, ready_under, is_live_handle}
use Rattle.shape_registry.specs.declared.found.Found.{Found}
use Rattle.shape_registry.specs.declared.found.Found.TheVariants as found
use Rattle.shape_registry.specs.declared.refusal.Refusal.{Refusal}
use Rattle.shape_registry.specs.declared.refusal.Refusal.TheVariants as refusals
use Rattle.shape_registry.specs.declared.standing.Standing.{Standing}
use Rattle.shape_registry.specs.declared.standing.Standing.TheVariants as standings

-- How a number stands after these events.
abbrev pub standing_after : List RegistryEvent → ℕ → Standing
standing_after es number = if is_live es number then (if had_ready es number then standings.Ready else standings.Starting) else standings.NotLive

-- How many transactions had been taken when a live number was given.
abbrev pub before_after : List RegistryEvent → ℕ → Option ℕ
before_after es number = if is_live es number then Some (taken_before es number) else None

-- a live number is found, and the one that is live under an identity
abbrev pub found_number : List RegistryEvent → ℕ → Found
found_number es number = if had_ready es number then found.Ready number else found.Starting number

abbrev pub found_under : List RegistryEvent → Option ℕ → Found
found_under es None = found.Unregistered
found_under es (Some number) = found_number es number

-- What is found for a request of an identity after these events of that run.
abbrev pub found_after : List ℕ → List RegistryEvent → List ℕ → Named → Found
found_after run es identity Absent = found_under es (live_under es identity)
found_after run es identity (Known h) = if is_live_handle run es identity h then found_number es h.number else found.Gone (ready_under es identity)
found_after run es identity Strange = found.Gone (ready_under es identity)

-- why no number is given for an identity, by the number that is live under it
abbrev pub refusal_under : ℕ → List RegistryEvent → Option ℕ → Option Refusal
refusal_under limit es (Some number) = Some (refusals.Exists number)
refusal_under limit es None = if length (live_registrations es) == limit then Some (refusals.TooMany (length (live_registrations es)) limit)
    else if length (registrations es) == 2 ^ 64 - 1 then Some refusals.NumbersSpent else None

-- Why no number is given for an identity after these events, memory aside.
abbrev pub refusal_after : ℕ → List RegistryEvent → List ℕ → Option Refusal
refusal_after limit es identity = refusal_under limit es (live_under es identity)
