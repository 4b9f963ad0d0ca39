-- The snapshot that an exchange owns: under way, whole, and refused.
use Rattle.std.specs.Prelude.{◌≡◌, ◌⊎◌, ◌≤◌, ◌<◌, ℕ, zero, suc, true, List, length, Option, None, Some, is_some, unwrap_or, slice_get, Result}
use Rattle.shape_base.specs.Tables.{Table}
use Rattle.shape_base.specs.Snapshot.{Snapshot}
use Rattle.pg_dialogue.specs.declared.login.SnapHead.{SnapHead}
use Rattle.shape_snapshot.specs.declared.faults.SnapError.{SnapError}
use Rattle.core_events.specs.declared.out.Out.{Out}
use Rattle.core_events.specs.declared.out.StepError.{StepError}
use Rattle.core_law.specs.Situation.{Options, Shape, Situation, shape_at}
use Rattle.core_law.specs.Steps.{Fault, owned_by, id_before}
use Rattle.core_law.specs.Clients.{Goes}
use Rattle.core_law.specs.Clients as law
use Rattle.core_law.specs.Run.{Event, SnapshotCame, SnapshotEnded, turn_of, next_of}
use Rattle.core_law.specs.Laws.{IsStart}
use Rattle.core_law.specs.Reached.{IsReached}
use Rattle.core_server.specs.Snapshots.{Snap, snapshot_of, refusal_in, event_for, IsUnderWay}
use Rattle.core_machine.specs.declared.machine.Machine.{Machine}
use Rattle.core_machine.specs.Faults.{under_way}
use Rattle.core_machine.specs.Standing.{Stands}
use Rattle.core_machine.specs.Turns.{TurnsTo}

-- the id of the last commit before a number was registered, by the numbers in order
abbrev pub last_at : List (Option ℕ) → ℕ → Option ℕ
last_at lasts zero = None
last_at lasts (suc i) = unwrap_or (slice_get lasts i) None

-- An exchange owns a snapshot under way: the number that it registered is starting.
pub record OwnsSnapshot (m : Machine) (e : ℕ) : Type 0 where
  pub options : Options
  pub situation : Situation
  pub stands : Stands options situation m
  pub owns : is_some (under_way situation e) ≡ true

-- The snapshot of the number that an exchange owns has begun: it has this head and these rows, and nothing refuses it yet.
pub record HasBegun (o : Options) (s : Situation) (e : ℕ) (head : SnapHead) (rows : Table) (snap : Snap) : Type 0 where
  pub number : ℕ
  pub shape : Shape
  pub owns : owned_by (slice_get s.exchanges e) ≡ Some number
  pub at : shape_at s.server.shapes number ≡ Some shape
  pub under_way : IsUnderWay o s.server.commits shape head rows snap

-- With this head and these rows it is refused, for this.
pub record IsRefusedFor (o : Options) (s : Situation) (e : ℕ) (head : SnapHead) (rows : Table) (error : SnapError) : Type 0 where
  pub number : ℕ
  pub shape : Shape
  pub owns : owned_by (slice_get s.exchanges e) ≡ Some number
  pub at : shape_at s.server.shapes number ≡ Some shape
  pub refused : refusal_in shape.reader o.limits (id_before s.server.commits shape.before) head rows ≡ Some error

-- ---- what a machine is given

-- it began for the exchange
pub record IsOwn (m : Machine) (e : ℕ) (snap : Snap) : Type 0 where
  pub options : Options
  pub situation : Situation
  pub stands : Stands options situation m
  pub head : SnapHead
  pub rows : Table
  pub begun : HasBegun options situation e head rows snap

-- it is why the exchange's snapshot is refused, whose table has fewer than 2^32 columns
pub record IsRefusal (m : Machine) (e : ℕ) (error : SnapError) : Type 0 where
  pub options : Options
  pub situation : Situation
  pub stands : Stands options situation m
  pub head : SnapHead
  pub rows : Table
  pub refused : IsRefusedFor options situation e head rows error
  pub few : length head.columns < 4294967296

-- ---- what it makes of it

-- It takes the snapshot as the event that it came, with whatever head and rows it has.
abbrev pub TakesSnapshot : Machine → Machine → ℕ → Snap → Result (List Out) StepError → Type 0
TakesSnapshot old new e snap result = (o : Options) (s : Situation) (head : SnapHead) (rows : Table) → Stands o s old → HasBegun o s e head rows snap → TurnsTo o (turn_of o s (SnapshotCame e (snapshot_of head snap.vis rows))) result new

-- It takes the refusal as the event of that, for whatever head and rows it is.
abbrev pub TakesRefusal : Machine → Machine → ℕ → SnapError → Result (List Out) StepError → Type 0
TakesRefusal old new e error result = (o : Options) (s : Situation) (head : SnapHead) (rows : Table) (event : Event) → Stands o s old → IsRefusedFor o s e head rows error → event_for e head rows error ≡ Some event → TurnsTo o (turn_of o s event) result new

-- ---- the laws

-- A snapshot that has begun for an exchange stays so, whatever happens.
abbrev pub SnapshotsStay : Type 0
SnapshotsStay = (o : Options) (s : Situation) (event : Event) (e : ℕ) (head : SnapHead) (rows : Table) (snap : Snap) → IsStart o → IsReached o s → HasBegun o s e head rows snap → HasBegun o (next_of s (turn_of o s event)) e head rows snap

-- What a head and rows are refused for stays so, whatever happens.
abbrev pub RefusalsStay : Type 0
RefusalsStay = (o : Options) (s : Situation) (event : Event) (e : ℕ) (head : SnapHead) (rows : Table) (error : SnapError) → IsStart o → IsReached o s → IsRefusedFor o s e head rows error → IsRefusedFor o (next_of s (turn_of o s event)) e head rows error

-- Whoever owns a snapshot under way after an event owned it before, or is a new exchange.
abbrev pub UnderWayIsKnown : Type 0
UnderWayIsKnown = (o : Options) (s : Situation) (event : Event) (e : ℕ) → IsStart o → IsReached o s → is_some (under_way (next_of s (turn_of o s event)) e) ≡ true → (is_some (under_way s e) ≡ true) ⊎ (length s.exchanges ≤ e)

-- an event that ends the snapshot of an exchange
pub data EndsFor (e : ℕ) : Event → Type 0 where
  Came : (snapshot : Snapshot) → EndsFor e (SnapshotCame e snapshot)
  Ended : (fault : Fault) → EndsFor e (SnapshotEnded e fault)

-- Once the event that ends an exchange's snapshot is taken, none is under way for it.
abbrev pub SnapshotsEndOnce : Type 0
SnapshotsEndOnce = (o : Options) (s : Situation) (event : Event) (e : ℕ) (outs : List law.Out) (next : Situation) → EndsFor e event → turn_of o s event ≡ Goes outs next → under_way next e ≡ None

-- No event takes an exchange away.
abbrev pub ExchangesStay : Type 0
ExchangesStay = (o : Options) (s : Situation) (event : Event) → length s.exchanges ≤ length (next_of s (turn_of o s event)).exchanges
