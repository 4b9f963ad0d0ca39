-- What a server answers to a request, from the handle on: worked out from the events of its registry, the logs of the ready handles, and whether the request is late.
use Rattle.std.specs.Prelude.{◌≡◌, ℕ, Bool, true, false, not, ◌&&◌, if◌then◌else◌, List, [], ◌∷◌, Option, None, Some, IfSome}
use Rattle.std.specs.Option.{option_map}
use Rattle.shape_base.specs.declared.offset.Offset.{Offset}
use Rattle.shape_base.specs.declared.offset.Offset.TheVariants.{Start}
use Rattle.shape_base.specs.declared.handle.Handle.{Handle}
use Rattle.shape_base.specs.declared.ask.Named.{Named}
use Rattle.shape_base.specs.declared.ask.Named.TheVariants.{Absent, Known, Strange}
use Rattle.shape_base.specs.declared.ask.Ask.{Ask}
use Rattle.shape_base.specs.declared.entry.Entry.{Entry}
use Rattle.shape_base.specs.declared.registry_event.RegistryEvent.{RegistryEvent}
use Rattle.shape_base.specs.Offsets.{is_before, past}
use Rattle.shape_base.specs.Log.{end_of}
use Rattle.shape_base.specs.RegistryHistory.{had_ready, ready_under, live_under, is_live_under, is_live_handle}
use Rattle.shape_json.specs.Page.{Part, page_of}

-- The situation in which a request is answered.
pub record Situation : Type 0 where
  -- the name of the server's run
  pub run : List ℕ
  -- what has happened to its registry
  pub events : List RegistryEvent
  -- the log of each ready number
  pub log : ℕ → List Entry
  -- the request has waited as long as it may
  pub late : Bool
  -- a chunk closes at the entry with which its texts have at least this many bytes
  pub chunk : ℕ

pub data Answer : Type 0 where
  -- the page of a handle's log after an offset
  Paged : (handle : Handle) (from : Offset) (page : Part) → Answer
  -- the handle is not live under the request's identity; another one is ready under it, or none
  Gone : (named : Option Handle) → Answer
  -- the offset is after the end of the log
  OffsetAhead : (end : Offset) → Answer
  -- none yet: nothing new stands in the log, and the request waits for what is new
  NotYet : Answer
  -- none yet: the shape with that number waits for its snapshot
  Starting : (number : ℕ) → Answer
  -- no handle was named, and none is live under the request's identity
  Unregistered : Answer

-- the handle with that number in the server's run
abbrev pub in_run : List ℕ → ℕ → Handle
in_run run number = record { number = number; run = run }

abbrev pub is_empty : List Entry → Bool
is_empty [] = true
is_empty (e ∷ es) = false

-- the handle is ready, and this is its log
abbrev pub answer_ready : Situation → Ask → Handle → List Entry → Answer
answer_ready s ask h log = if is_before (end_of log) ask.offset then OffsetAhead (end_of log)
    else if ask.live && (not s.late && is_empty (past ask.offset log)) then NotYet
    else Paged h ask.offset (page_of s.chunk log ask.offset)

-- the handle that is ready under the identity is named in the place of one that is not live
abbrev pub gone : Situation → Ask → Answer
gone s ask = Gone (option_map (in_run s.run) (ready_under s.events ask.identity))

-- a first request: the handle that is ready under its identity, or else the one that is starting, or else none
abbrev pub answer_first : Situation → Option ℕ → Option ℕ → Answer
answer_first s (Some number) live = Paged (in_run s.run number) Start (page_of s.chunk (s.log number) Start)
answer_first s None (Some number) = Starting number
answer_first s None None = Unregistered

abbrev pub answer_named : Situation → Ask → Named → Answer
answer_named s ask Absent = answer_first s (ready_under s.events ask.identity) (live_under s.events ask.identity)
answer_named s ask (Known h) = if is_live_handle s.run s.events ask.identity h
    then if had_ready s.events h.number then answer_ready s ask h (s.log h.number) else Starting h.number
    else gone s ask
answer_named s ask Strange = gone s ask

-- The answer to a request. A text that is no handle is never live.
abbrev pub answer_of : Situation → Ask → Answer
answer_of s ask = answer_named s ask ask.named

-- ---- what an answer says of its request

-- A page of that handle after that offset is what the request asked: a first one begins at the start, and any other has its own handle and offset.
abbrev pub IsAsked : Named → Offset → Handle → Offset → Type 0
IsAsked Absent offset handle from = from ≡ Start
IsAsked (Known h) offset handle from = (h ≡ handle) × (from ≡ offset)
IsAsked Strange offset handle from = ⊥

-- A page is of a handle of this run that is ready under the request's identity, and its offset is not after the end of the log.
pub record IsPaged (s : Situation) (ask : Ask) (handle : Handle) (from : Offset) (page : Part) : Type 0 where
  pub run : handle.run ≡ s.run
  pub ready : had_ready s.events handle.number ≡ true
  pub under : is_live_under s.events ask.identity handle.number ≡ true
  pub asked : IsAsked ask.named ask.offset handle from
  pub there : is_before (end_of (s.log handle.number)) from ≡ false
  pub is : page ≡ page_of s.chunk (s.log handle.number) from

-- The handle that is named in another's place is of this run, and ready under the request's identity.
pub record IsNamedReady (s : Situation) (ask : Ask) (handle : Handle) : Type 0 where
  pub run : handle.run ≡ s.run
  pub ready : had_ready s.events handle.number ≡ true
  pub under : is_live_under s.events ask.identity handle.number ≡ true

-- The request names a handle.
abbrev pub IsNamed : Named → Type 0
IsNamed Absent = ⊥
IsNamed (Known h) = Unit {0}
IsNamed Strange = Unit {0}

pub record IsGone (s : Situation) (ask : Ask) (named : Option Handle) : Type 0 where
  pub names : IsNamed ask.named
  pub other : IfSome named (IsNamedReady s ask)
