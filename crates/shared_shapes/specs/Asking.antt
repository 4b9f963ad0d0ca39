-- What an ask is answered, by what the caller has seen after it.
use Rattle.std.specs.Prelude.{◌≡◌, ℕ, ◌+◌, length, Bool, false, List, [], ◌∷◌, ◌++◌, Option, None, Some, IfSome, IsSome, IsSomeAnd, Result, IfOk}
use Rattle.std.specs.Option.{option_map}
use Rattle.std.specs.Ordering.{nat_cmp}
use Rattle.std.specs.FinMap.{FinMap}
use Rattle.std.specs.FinMap as fin
use mathlib.Core.List.{IsPrefix}
use Rattle.front_lock.specs.Passes.{mine, IsSameLock, IsSameShare}
use Rattle.shape_base.specs.declared.cause.Cause.{Cause}
use Rattle.shape_base.specs.declared.entry.Entry.{Entry}
use Rattle.shape_base.specs.declared.memory.OutOfMemory.{OutOfMemory}
use Rattle.shape_base.specs.declared.offset.Offset.{Offset}
use Rattle.shape_base.specs.declared.offset.Offset.TheVariants.{Start}
use Rattle.shape_base.specs.declared.ask.Ask.{Ask}
use Rattle.shape_base.specs.declared.ask.Named.{Named}
use Rattle.shape_base.specs.declared.ask.Named.TheVariants.{Absent, Known, Strange}
use Rattle.shape_base.specs.declared.registry_event.RegistryEvent.TheVariants.{Removed}
use Rattle.shape_base.specs.declared.change.Tx.{Tx}
use Rattle.shape_base.specs.RegistryHistory.{transactions, taken_before}
use Rattle.shape_json.specs.Body.{capped}
use Rattle.shape_base.specs.Tables.{Values}
use Rattle.shape_base.specs.Shape.{Knows}
use Rattle.chunked_log.specs.Chunked.{Carries}
use Rattle.shape_json.specs.Page.{Part}
use Rattle.shape_json.specs.Answer.{Situation, answer_of, in_run}
use Rattle.shape_json.specs.Answer as answers
use Rattle.shape_json.specs.ShapeHistory.{ShapeState, Starting, Ready, Gone, snapshot_in, taken}
use Rattle.shape_state.specs.declared.paged.Paged.{Paged}
use Rattle.shape_state.specs.declared.paged.Paged.TheVariants as paged
use Rattle.shape_registry.specs.declared.found.Found.{Found}
use Rattle.shape_registry.specs.declared.found.Found.TheVariants as found
use Rattle.shape_registry.specs.ByHistory.{found_after}
use Rattle.shape_lock.specs.declared.start.ShapeStart.{ShapeStart}
use Rattle.shape_lock.specs.declared.calls.Looked.{Looked}
use Rattle.shape_lock.specs.Starts.{state_in, drop_in, IsLegalIn, IsPagedIn}
use Rattle.shared_shapes.specs.declared.registry_data.RegistryData.{RegistryData}
use Rattle.shared_shapes.specs.declared.asked.Asked.{Asked}
use Rattle.shared_shapes.specs.declared.asked.Asked.TheVariants as asked
use Rattle.shared_shapes.specs.declared.asked.Met.{Met}
use Rattle.shared_shapes.specs.declared.asked.Met.TheVariants.{Shape, Told}
use Rattle.shared_shapes.specs.Events.{Noted, plain, events_of}
use Rattle.shared_shapes.specs.Passes.{RegSight}
use Rattle.shared_shapes.specs.Seats.{Seated, IsSeat}

-- the name of the run
abbrev pub run_in : Option RegistryData → List ℕ
run_in None = []
run_in (Some d) = d.run.value

-- ---- the registry

-- what is found is told to the caller
abbrev pub IsTold : Found → Asked → Type 0
IsTold f (asked.Page number page) = ⊥
IsTold f (asked.NotYet number) = ⊥
IsTold f (asked.Starting number) = f ≡ found.Starting number
IsTold f (asked.Gone named) = f ≡ found.Gone named
IsTold f (asked.OffsetAhead number end) = ⊥
IsTold f asked.Unregistered = f ≡ found.Unregistered

module _ {A : Type 0} where
  -- A pass of the shape that was registered under the number, which has its snapshot; its holder made no event.
  pub record IsVisit (es : List (Noted A)) (number : ℕ) (s : Seated A) : Type 0 where
    pub seat : IsSeat es number s
    pub own : s.pass.own ≡ []
    pub right : s.right ≡ None
    pub snapshot : IsSome (snapshot_in s.pass.seen)

  -- what is met for a request after these events: a ready number with a pass of its shape, or what is told; and how many transactions had been taken when the number was given, or by then
  abbrev pub IsMet : List ℕ → List (Noted A) → Ask → Met (Seated A) → Type 0
  IsMet run es ask (Shape number before seat) = (found_after run (events_of es) ask.identity ask.named ≡ found.Ready number) × (before ≡ taken_before (events_of es) number) × IsVisit es number seat
  IsMet run es ask (Told a count) = IsTold (found_after run (events_of es) ask.identity ask.named) a × (count ≡ length (transactions (events_of es)))

-- ---- a shape

-- from where a request is answered: from the start where it names no handle
abbrev pub start_of : Named → Offset → Offset
start_of Absent o = Start
start_of (Known h) o = o
start_of Strange o = o

-- whether it waits for what is new: not where it names no handle
abbrev pub waits_of : Named → Bool → Bool
waits_of Absent live = false
waits_of (Known h) live = live
waits_of Strange live = live

-- what a shape that is not dropped answers is told to the caller
abbrev pub IsShaped : ℕ → Paged → Asked → Type 0
IsShaped number (paged.Page page) a = a ≡ asked.Page number page
IsShaped number paged.NotYet a = a ≡ asked.NotYet number
IsShaped number paged.Starting a = ⊥
IsShaped number (paged.Gone cause) a = ⊥
IsShaped number (paged.OffsetAhead end) a = a ≡ asked.OffsetAhead number end

-- ---- the answer

abbrev pub log_in : ShapeState → List Entry
log_in (Starting buffer) = []
log_in (Ready log) = log
log_in (Gone cause) = []

abbrev pub chunk_in : {A : Type 0} → Option (ShapeStart A) → ℕ
chunk_in None = 0
chunk_in (Some x) = x.limits.chunk

-- The answer is that of the situation. A page carries the answer's part of the log.
abbrev pub Says : Situation → Ask → Asked → Type 0
Says s ask (asked.Page number page) = (from : Offset) × (part : Part) × (answer_of s ask ≡ answers.Paged (in_run s.run number) from part) × Carries page part
Says s ask (asked.NotYet number) = answer_of s ask ≡ answers.NotYet
Says s ask (asked.Starting number) = answer_of s ask ≡ answers.Starting number
Says s ask (asked.Gone named) = answer_of s ask ≡ answers.Gone (option_map (in_run s.run) named)
Says s ask (asked.OffsetAhead number end) = answer_of s ask ≡ answers.OffsetAhead end
Says s ask asked.Unregistered = answer_of s ask ≡ answers.Unregistered

-- the number whose shape answered
abbrev pub shape_of : Asked → Option ℕ
shape_of (asked.Page number page) = Some number
shape_of (asked.NotYet number) = Some number
shape_of (asked.Starting number) = None
shape_of (asked.Gone named) = None
shape_of (asked.OffsetAhead number end) = Some number
shape_of asked.Unregistered = None

-- ---- seats of a caller as its asks go on

module _ {A : Type 0} where
  -- the second has seen at least what the first had, and has the same events of its own
  pub record Follows (s s' : Seated A) : Type 0 where
    pub lock : IsSameLock s.pass s'.pass
    pub seen : IsPrefix s.pass.seen s'.pass.seen
    pub mine : mine s'.pass ≡ mine s.pass
    pub right : s'.right ≡ s.right

  -- a seat that was there follows itself; a new one has no events of its own
  abbrev pub IsOn : Option (Seated A) → Option (Seated A) → Type 0
  IsOn None None = Unit {0}
  IsOn None (Some s') = mine s'.pass ≡ []
  IsOn (Some s) None = ⊥
  IsOn (Some s) (Some s') = Follows s s'

  abbrev pub AreOn : FinMap nat_cmp (Seated A) → FinMap nat_cmp (Seated A) → Type 0
  AreOn seats seats' = (number : ℕ) → IsOn (fin.get seats number) (fin.get seats' number)

  -- The seat of the number has seen what the visitor's pass has, or is the visitor's where there was none.
  pub record Admits (seats seats' : FinMap nat_cmp (Seated A)) (number : ℕ) (v : Seated A) : Type 0 where
    pub after : Seated A
    pub now : seats' ≡ fin.insert seats number after
    pub on : IsOn (fin.get seats number) (Some after)
    pub lock : after.pass.lock ≡ v.pass.lock
    pub seen : IsPrefix v.pass.seen after.pass.seen
    pub known : (es : List (Noted A)) → IfSome (fin.get seats number) (IsSeat es number) → IsSeat es number v → IsSeat es number after

module _ {A : Type 0} (knows : A → Knows) (unread : A → Values → ℕ → Bool) where
  -- the log of a shape, by what its pass has seen
  abbrev pub log_of : Option (Seated A) → List Entry
  log_of None = []
  log_of (Some s) = log_in (state_in knows unread s.pass.fixed s.pass.seen)

  -- the situation of a caller: the events of the registry that it has seen, and of each shape
  abbrev pub situation : RegSight A → FinMap nat_cmp (Seated A) → Bool → ℕ → Situation
  situation k seats late chunk = record { run = run_in k.fixed; events = events_of k.seen; log = λ n. log_of (fin.get seats n); late = late; chunk = chunk }

  -- the commits that came to a shape, by what its pass has seen
  abbrev pub taken_of : Option (Seated A) → List Tx
  taken_of None = []
  taken_of (Some s) = taken s.pass.seen

  -- How many commits had come: to a shape those before its registration and those that it took, otherwise those that the registry took. 2^64 - 1 where there were more.
  abbrev pub came : RegSight A → FinMap nat_cmp (Seated A) → Option ℕ → ℕ
  came k seats None = length (transactions (events_of k.seen))
  came k seats (Some n) = capped (taken_before (events_of k.seen) n + length (taken_of (fin.get seats n)))

  -- the history of the shape is legal, and its chunks have this limit
  pub record IsSource (chunk : ℕ) (s : Seated A) : Type 0 where
    pub legal : IsLegalIn knows unread s.pass.fixed s.pass.seen
    pub chunk_is : chunk ≡ chunk_in s.pass.fixed

  -- The answer is that of the registry's and the shape's histories that the caller has seen, with the count of commits in them; the chunk is that of the shape which answered.
  pub record Answers (k : RegSight A) (seats : FinMap nat_cmp (Seated A)) (ask : Ask) (late : Bool) (a : Asked) (count : ℕ) : Type 0 where
    pub chunk : ℕ
    pub says : Says (situation k seats late chunk) ask a
    pub count_is : count ≡ came k seats (shape_of a)
    pub shape : IfSome (shape_of a) (λ n. IsSomeAnd (fin.get seats n) (IsSource chunk))

  -- ---- what an ask changes

  -- a look at the shape of a seat: what was answered is that of the history that its pass has seen then
  pub record Looks (offset : Offset) (live late : Bool) (r : Result Looked OutOfMemory) (s s' : Seated A) : Type 0 where
    pub on : Follows s s'
    pub legal : IsLegalIn knows unread s'.pass.fixed s'.pass.seen
    pub paged_is : IfOk r (λ l. IsPagedIn knows unread s'.pass.fixed s'.pass.seen offset live late l.paged)
    pub took_is : IfOk r (λ l. l.took ≡ capped (length (taken s'.pass.seen)))

  -- a visitor's look at the shape of a number: the seat that there is then, and what was answered
  pub record Visits (seats' : FinMap nat_cmp (Seated A)) (number : ℕ) (v : Seated A) (offset : Offset) (live late : Bool) (l : Looked) : Type 0 where
    pub after : Seated A
    pub now : fin.get seats' number ≡ Some after
    pub seen : IsPrefix v.pass.seen after.pass.seen
    pub legal : IsLegalIn knows unread after.pass.fixed after.pass.seen
    pub paged_is : IsPagedIn knows unread after.pass.fixed after.pass.seen offset live late l.paged
    pub took_is : l.took ≡ capped (length (taken after.pass.seen))

  -- the shape is seen dropped for this cause
  abbrev pub IsGoneAs : Cause → Seated A → Type 0
  IsGoneAs cause s = drop_in knows unread s.pass.fixed s.pass.seen ≡ Some cause

  -- each is the removal of a shape that is seen dropped, with its cause
  pub record IsRemoval (seats : FinMap nat_cmp (Seated A)) (e : Noted A) : Type 0 where
    pub number : ℕ
    pub cause : Cause
    pub is : e ≡ plain (Removed number cause)
    pub gone : IsSomeAnd (fin.get seats number) (IsGoneAs cause)

  abbrev pub AreRemovals : FinMap nat_cmp (Seated A) → List (Noted A) → Type 0
  AreRemovals seats [] = Unit {0}
  AreRemovals seats (e ∷ es) = IsRemoval seats e × AreRemovals seats es

  -- The second state of a caller is the first after asks: it has seen more, and made no event but removals of shapes that it has seen dropped.
  pub record AsksOn (k k' : RegSight A) (seats seats' : FinMap nat_cmp (Seated A)) : Type 0 where
    pub lock : IsSameLock k k'
    pub share : IsSameShare k k'
    pub seen : IsPrefix k.seen k'.seen
    pub made : List (Noted A)
    pub mine : mine k' ≡ mine k ++ made
    pub removals : AreRemovals seats' made
    pub each : AreOn seats seats'
