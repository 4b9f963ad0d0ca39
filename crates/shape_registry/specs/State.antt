-- What a registry keeps: the handle of a number and of an identity, and how each event changes it.
use Rattle.std.specs.Prelude.{ℕ, ◌+◌, ◌-◌, ◌^◌, nat_le, ◌&&◌, false, not, ◌||◌, ◌==◌, if◌then◌else◌, List, [], ◌∷◌, ◌++◌, length, map, filter, find, Option, None, Some, unwrap_or, slice_set}
use Rattle.std.specs.Option.{option_map}
use Rattle.shape_base.specs.declared.registry_event.RegistryEvent.{RegistryEvent}
use Rattle.shape_base.specs.declared.registry_event.RegistryEvent.TheVariants as events
use Rattle.shape_base.specs.declared.ask.Named.{Named}
use Rattle.shape_base.specs.declared.ask.Named.TheVariants.{Absent, Known, Strange}
use Rattle.shape_base.specs.declared.handle.Handle.{Handle}
use Rattle.shape_base.specs.Tables.{same_text}
use Rattle.shape_base.specs.RegistryHistory.{RegistryState, LiveHandle}
use Rattle.shape_registry.specs.declared.found.Found.{Found}
use Rattle.shape_registry.specs.declared.found.Found.TheVariants as found
use Rattle.shape_registry.specs.declared.refusal.Refusal.{Refusal}
use Rattle.shape_registry.specs.declared.refusal.Refusal.TheVariants as refusals
use Rattle.shape_registry.specs.declared.standing.Standing.{Standing}
use Rattle.shape_registry.specs.declared.standing.Standing.TheVariants as standings

-- the live handle with a number, and the one under an identity
abbrev pub live_at : RegistryState → ℕ → Option LiveHandle
live_at s number = find (λ l. l.number == number) s.live

abbrev pub live_as : RegistryState → List ℕ → Option LiveHandle
live_as s identity = find (λ l. same_text l.identity identity) s.live

abbrev pub standing_of : Option LiveHandle → Standing
standing_of None = standings.NotLive
standing_of (Some l) = if l.ready then standings.Ready else standings.Starting

-- how a number stands
abbrev pub standing_in : RegistryState → ℕ → Standing
standing_in s number = standing_of (live_at s number)

-- the id of the last transaction taken, and its LSN; 0 where none was taken
abbrev pub id_in : RegistryState → Option ℕ
id_in s = option_map (λ t. t.xid) s.last

abbrev pub lsn_in : RegistryState → ℕ
lsn_in s = unwrap_or (option_map (λ t. t.lsn) s.last) 0

-- ---- what is found

abbrev pub found_live : LiveHandle → Found
found_live l = if l.ready then found.Ready l.number else found.Starting l.number

abbrev pub found_as : Option LiveHandle → Found
found_as None = found.Unregistered
found_as (Some l) = found_live l

-- the number of a handle that is ready
abbrev pub ready_number : Option LiveHandle → Option ℕ
ready_number None = None
ready_number (Some l) = if l.ready then Some l.number else None

abbrev pub gone_in : RegistryState → List ℕ → Found
gone_in s identity = found.Gone (ready_number (live_as s identity))

-- what is found for a handle that is named, by what its number finds
abbrev pub found_named : RegistryState → List ℕ → Handle → Option LiveHandle → Found
found_named s identity h None = gone_in s identity
found_named s identity h (Some l) = if same_text h.run s.run && same_text l.identity identity then found_live l else gone_in s identity

-- What is found for a request of an identity.
abbrev pub found_in : RegistryState → List ℕ → Named → Found
found_in s identity Absent = found_as (live_as s identity)
found_in s identity (Known h) = found_named s identity h (live_at s h.number)
found_in s identity Strange = gone_in s identity

-- why no number is given for an identity that is not live
abbrev pub refusal_new : RegistryState → Option Refusal
refusal_new s = if nat_le s.limit (length s.live) then Some (refusals.TooMany (length s.live) s.limit) else if s.given == 2 ^ 64 - 1 then Some refusals.NumbersSpent else None

-- Why no number is given for an identity.
abbrev pub refusal_in : RegistryState → List ℕ → Option Refusal
refusal_in s identity = elim (live_as s identity) [
  | None ↦ refusal_new s
  | Some l ↦ Some (refusals.Exists l.number)
]

-- ---- events

-- a handle where that number becomes ready
abbrev pub with_ready : ℕ → LiveHandle → LiveHandle
with_ready number l = record l { ready = l.ready || (number == l.number) }

-- What is kept after one event more.
abbrev pub after : RegistryState → RegistryEvent → RegistryState
after s (events.Registered n i t l) = record s { live = s.live ++ record { number = n; identity = i; table = t; before = s.taken; ready = false } ∷ []; given = s.given + 1 }
after s (events.Ready n) = record s { live = map (with_ready n) s.live }
after s (events.Removed n c) = record s { live = filter (λ l. not (n == l.number)) s.live }
after s (events.Took lsn xid) = record s { taken = s.taken + 1; last = Some (record { lsn = lsn; xid = xid }) }
after s (events.Redefined d) = record s { catalog = slice_set s.catalog d.table d }
