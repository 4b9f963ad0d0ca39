-- The history of a registry of handles: when it is legal, which handles are live, ready and starting after it, and what a registry stands for. All of it is worked out from the list of events alone.
use Rattle.std.specs.Prelude.{◌≡◌, ℕ, ◌+◌, ◌<◌, Bool, true, false, not, ◌&&◌, ◌==◌, if◌then◌else◌, List, [], ◌∷◌, ◌++◌, length, map, filter, filter_map, find, fold, Option, None, Some, unwrap_or, slice_get, slice_set}
use Rattle.std.specs.Option.{option_map}
use Rattle.std.specs.List.{list_any, last_or}
use Rattle.shape_base.specs.declared.definition.TableDef.{TableDef}
use Rattle.shape_base.specs.declared.handle.Handle.{Handle}
use Rattle.shape_base.specs.declared.cause.Cause.{Cause}
use Rattle.shape_base.specs.declared.registry_event.RegistryEvent.{RegistryEvent}
use Rattle.shape_base.specs.declared.registry_event.RegistryEvent.TheVariants.{Registered, Ready, Removed, Took, Redefined}
use Rattle.shape_base.specs.Tables.{same_text}

-- What a registry is started with, and no event changes: the name of its run, how many handles may be live, and the first definition of each served table.
pub record RegistryStart : Type 0 where
  pub run : List ℕ
  pub limit : ℕ
  pub catalog : List TableDef

-- ---- the parts of a history

-- a number, the identity and the table for which it was given, and the id of the last transaction taken before
pub record Registration : Type 0 where
  pub number : ℕ
  pub identity : List ℕ
  pub table : ℕ
  pub last : Option ℕ

-- a number that was removed, and why
pub record Removal : Type 0 where
  pub number : ℕ
  pub cause : Cause

-- a transaction that was taken
pub record Taken : Type 0 where
  pub lsn : ℕ
  pub xid : ℕ

abbrev pub registration_in : RegistryEvent → Option Registration
registration_in (Registered n i t l) = Some (record { number = n; identity = i; table = t; last = l })
registration_in (Ready n) = None
registration_in (Removed n c) = None
registration_in (Took lsn xid) = None
registration_in (Redefined d) = None

abbrev pub ready_in : RegistryEvent → Option ℕ
ready_in (Registered n i t l) = None
ready_in (Ready n) = Some n
ready_in (Removed n c) = None
ready_in (Took lsn xid) = None
ready_in (Redefined d) = None

abbrev pub removal_in : RegistryEvent → Option Removal
removal_in (Registered n i t l) = None
removal_in (Ready n) = None
removal_in (Removed n c) = Some (record { number = n; cause = c })
removal_in (Took lsn xid) = None
removal_in (Redefined d) = None

abbrev pub transaction_in : RegistryEvent → Option Taken
transaction_in (Registered n i t l) = None
transaction_in (Ready n) = None
transaction_in (Removed n c) = None
transaction_in (Took lsn xid) = Some (record { lsn = lsn; xid = xid })
transaction_in (Redefined d) = None

abbrev pub definition_in : RegistryEvent → Option TableDef
definition_in (Registered n i t l) = None
definition_in (Ready n) = None
definition_in (Removed n c) = None
definition_in (Took lsn xid) = None
definition_in (Redefined d) = Some d

-- the registrations, the numbers that became ready, the removals, the transactions taken, and the new definitions, each in their order
abbrev pub registrations : List RegistryEvent → List Registration
registrations es = filter_map registration_in es

abbrev pub made_ready : List RegistryEvent → List ℕ
made_ready es = filter_map ready_in es

abbrev pub removals : List RegistryEvent → List Removal
removals es = filter_map removal_in es

abbrev pub transactions : List RegistryEvent → List Taken
transactions es = filter_map transaction_in es

abbrev pub redefinitions : List RegistryEvent → List TableDef
redefinitions es = filter_map definition_in es

-- ---- one number

-- the registration of a number, and its removal
abbrev pub registration_of : List RegistryEvent → ℕ → Option Registration
registration_of es number = find (λ r. r.number == number) (registrations es)

abbrev pub removal_of : List RegistryEvent → ℕ → Option Removal
removal_of es number = find (λ r. r.number == number) (removals es)

abbrev pub was_registered : List RegistryEvent → ℕ → Bool
was_registered es number = list_any (λ r. r.number == number) (registrations es)

abbrev pub was_removed : List RegistryEvent → ℕ → Bool
was_removed es number = list_any (λ r. r.number == number) (removals es)

abbrev pub had_ready : List RegistryEvent → ℕ → Bool
had_ready es number = list_any (λ n. n == number) (made_ready es)

-- A number is live where it was registered and not removed; ready where besides it had Ready; starting where it is live and not ready.
abbrev pub is_live : List RegistryEvent → ℕ → Bool
is_live es number = was_registered es number && not (was_removed es number)

abbrev pub is_ready : List RegistryEvent → ℕ → Bool
is_ready es number = is_live es number && had_ready es number

abbrev pub is_starting : List RegistryEvent → ℕ → Bool
is_starting es number = is_live es number && not (had_ready es number)

-- the events before the registration of a number; all of them where it has none
abbrev pub registers : ℕ → RegistryEvent → Bool
registers number (Registered n i t l) = n == number
registers number (Ready n) = false
registers number (Removed n c) = false
registers number (Took lsn xid) = false
registers number (Redefined d) = false

abbrev pub events_before : List RegistryEvent → ℕ → List RegistryEvent
events_before [] number = []
events_before (e ∷ es) number = if registers number e then [] else e ∷ events_before es number

-- how many transactions had been taken when a number was registered
abbrev pub taken_before : List RegistryEvent → ℕ → ℕ
taken_before es number = length (transactions (events_before es number))

-- ---- the live handles

-- the registrations of the live numbers, rising, and of those among them that are ready
abbrev pub live_registrations : List RegistryEvent → List Registration
live_registrations es = filter (λ r. not (was_removed es r.number)) (registrations es)

abbrev pub ready_registrations : List RegistryEvent → List Registration
ready_registrations es = filter (λ r. had_ready es r.number) (live_registrations es)

abbrev pub live_numbers : List RegistryEvent → List ℕ
live_numbers es = map (λ r. r.number) (live_registrations es)

-- the number that is live under an identity, and the one that is ready under it; there is at most one
abbrev pub live_under : List RegistryEvent → List ℕ → Option ℕ
live_under es identity = option_map (λ r. r.number) (find (λ r. same_text r.identity identity) (live_registrations es))

abbrev pub ready_under : List RegistryEvent → List ℕ → Option ℕ
ready_under es identity = option_map (λ r. r.number) (find (λ r. same_text r.identity identity) (ready_registrations es))

-- the number was registered, is live, under that identity
abbrev pub was_registered_under : List RegistryEvent → List ℕ → ℕ → Bool
was_registered_under es identity number = list_any (λ r. (r.number == number) && same_text r.identity identity) (registrations es)

abbrev pub is_live_under : List RegistryEvent → List ℕ → ℕ → Bool
is_live_under es identity number = was_registered_under es identity number && not (was_removed es number)

-- A handle is live under an identity where it is of this run and its number is.
abbrev pub is_live_handle : List ℕ → List RegistryEvent → List ℕ → Handle → Bool
is_live_handle run es identity h = same_text h.run run && is_live_under es identity h.number

-- ---- transactions and definitions

abbrev pub last_taken : List RegistryEvent → Option Taken
last_taken es = last_or None (transactions es)

-- the id of the last transaction taken, and its LSN; 0 where none was taken
abbrev pub last_id : List RegistryEvent → Option ℕ
last_id es = option_map (λ t. t.xid) (last_taken es)

abbrev pub last_lsn : List RegistryEvent → ℕ
last_lsn es = unwrap_or (option_map (λ t. t.lsn) (last_taken es)) 0

-- a catalogue of definitions, each in its table's place, after new ones
abbrev pub redefined : List TableDef → List TableDef → List TableDef
redefined defs news = fold (λ ds d. slice_set ds d.table d) defs news

abbrev pub catalog_after : List TableDef → List RegistryEvent → List TableDef
catalog_after first es = redefined first (redefinitions es)

-- the definition of a served table
abbrev pub definition_after : List TableDef → List RegistryEvent → ℕ → Option TableDef
definition_after first es table = slice_get (catalog_after first es) table

-- ---- legal histories

-- A registration may follow these events, where at most that many handles may be live.
pub record MayRegister (limit : ℕ) (es : List RegistryEvent) (r : Registration) : Type 0 where
  -- numbers rise by one from 1, also past removals
  pub next : r.number ≡ length (registrations es) + 1
  -- no live handle has its identity
  pub free : live_under es r.identity ≡ None
  -- one more may be live
  pub room : length (live_registrations es) < limit
  -- it has the id of the last transaction taken
  pub last : r.last ≡ last_id es

-- An event may follow these events.
abbrev pub MayFollow : ℕ → List RegistryEvent → RegistryEvent → Type 0
MayFollow limit es (Registered n i t l) = MayRegister limit es (record { number = n; identity = i; table = t; last = l })
MayFollow limit es (Ready n) = is_starting es n ≡ true
MayFollow limit es (Removed n c) = is_live es n ≡ true
MayFollow limit es (Took lsn xid) = last_lsn es < lsn
MayFollow limit es (Redefined d) = Unit {0}

-- Each of the later events may follow those before it.
abbrev pub MayAllFollow : ℕ → List RegistryEvent → List RegistryEvent → Type 0
MayAllFollow limit es [] = Unit {0}
MayAllFollow limit es (e ∷ later) = MayFollow limit es e × MayAllFollow limit (es ++ e ∷ []) later

-- Each event may follow those before it.
abbrev pub IsLegal : ℕ → List RegistryEvent → Type 0
IsLegal limit es = MayAllFollow limit [] es

-- ---- what a registry stands for

-- a live handle, as a registry keeps it: the identity and the table for which its number was given, how many transactions had been taken then, and whether it is ready
pub record LiveHandle : Type 0 where
  pub number : ℕ
  pub identity : List ℕ
  pub table : ℕ
  pub before : ℕ
  pub ready : Bool

-- what a registry keeps: its run, its limit, its catalogue, the live handles, rising, how many numbers were given, how many transactions were taken, and the last of them
pub record RegistryState : Type 0 where
  pub run : List ℕ
  pub limit : ℕ
  pub catalog : List TableDef
  pub live : List LiveHandle
  pub given : ℕ
  pub taken : ℕ
  pub last : Option Taken

abbrev pub live_handle : List RegistryEvent → Registration → LiveHandle
live_handle es r = record { number = r.number; identity = r.identity; table = r.table; before = taken_before es r.number; ready = had_ready es r.number }

-- what the events leave to be kept
abbrev pub state_after : RegistryStart → List RegistryEvent → RegistryState
state_after start es = record {
  run = start.run;
  limit = start.limit;
  catalog = catalog_after start.catalog es;
  live = map (live_handle es) (live_registrations es);
  given = length (registrations es);
  taken = length (transactions es);
  last = last_taken es;
}

-- A registry stands for its events: they are legal, and it keeps what they leave.
pub record Stands (start : RegistryStart) (es : List RegistryEvent) (s : RegistryState) : Type 0 where
  pub legal : IsLegal start.limit es
  pub kept : s ≡ state_after start es
