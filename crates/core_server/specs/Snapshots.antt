-- The snapshot of a starting number, as its dialogue gives it: why it is refused, and what the core's event is.
use Rattle.std.specs.Prelude.{◌≡◌, ℕ, List, [], ◌∷◌, ◌++◌, Option, None, Some, Result, Ok, Err}
use Rattle.shape_base.specs.declared.change.Tx.{Tx}
use Rattle.shape_base.specs.declared.definition.TableDef.{TableDef}
use Rattle.shape_base.specs.declared.limits.Limits.{Limits}
use Rattle.shape_base.specs.Tables.{Table}
use Rattle.shape_base.specs.Visibility.{Visibility}
use Rattle.shape_base.specs.Snapshot.{Snapshot}
use Rattle.shape_json.specs.ShapeHistory.{Reader}
use Rattle.pg_dialogue.specs.declared.login.SnapHead.{SnapHead}
use Rattle.shape_def.specs.declared.defining.Def.{Def}
use Rattle.shape_def.specs.contracts.defining.DefRowTest.TheImpl.{ghosts}
use Rattle.shape_snapshot.specs.declared.snap.Snap as snaps
use Rattle.shape_snapshot.specs.declared.faults.SnapError.{SnapError}
use Rattle.shape_snapshot.specs.declared.faults.SnapError.TheVariants as errors
use Rattle.shape_snapshot.specs.Refusals.{seen_of, start_of, refusal_of, or_else}
use Rattle.shape_snapshot.specs.Taken.{HasTaken}
use Rattle.http_edge.specs.declared.error_code.ErrorCode.{ErrorCode}
use Rattle.http_edge.specs.declared.error_code.ErrorCode.TheVariants as codes
use Rattle.http_edge.specs.declared.error_code.Detail.TheVariants as details
use Rattle.core_law.specs.Situation.{Options, Shape}
use Rattle.core_law.specs.Steps.{IsBad, TooLarge, id_before, refusal_of_snapshot, started}
use Rattle.core_law.specs.Situation as law
use Rattle.core_law.specs.Run.{Event, SnapshotCame, SnapshotEnded}
use Rattle.core_server.specs.declared.server.Server.{Server}
use Rattle.core_server.specs.Standing.{Kept, reader_of, reader_in, Stands}

-- a snapshot under way
abbrev pub Snap : Type 0
Snap = snaps.Snap Def ghosts

-- the snapshot that a dialogue gives: its head shows these transactions, and these are its rows
abbrev pub snapshot_of : SnapHead → Visibility → Table → Snapshot
snapshot_of head v rows = record { visibility = v; oid = head.oid; columns = head.columns; rows = rows }

-- ---- why it is refused

abbrev pub error_in : Result Visibility SnapError → Option SnapError
error_in (Ok v) = None
error_in (Err e) = Some e

-- why the first of these rows is refused that is, each behind those before it
abbrev pub first_refused : Reader → Limits → Table → Table → Option SnapError
first_refused r l before [] = None
first_refused r l before (row ∷ rows) = or_else (refusal_of r l before row) (first_refused r l (before ++ row ∷ []) rows)

-- Why a dialogue's snapshot is refused: for its head, over the definition and the commit before the shape, or else for the first of its rows that is refused.
abbrev pub refusal_in : Reader → Limits → Option ℕ → SnapHead → Table → Option SnapError
refusal_in r l last head rows = or_else (error_in (start_of r.knows.definition last head)) (first_refused r l [] rows)

-- the code of a refusal
abbrev pub code_for : SnapError → ErrorCode
code_for (errors.BadSnapshot place) = codes.SnapshotRefused details.BadSnapshot
code_for (errors.DefinitionChanged have got) = codes.DefinitionChanged
code_for (errors.Stale last xmax) = codes.SnapshotStale last xmax
code_for errors.WrongWidth = codes.SnapshotRefused details.WrongWidth
code_for (errors.BadValue column) = codes.SnapshotRefused details.BadValue
code_for (errors.NullKey column) = codes.SnapshotRefused details.NullKey
code_for (errors.DuplicateKey key) = codes.SnapshotRefused details.DuplicateKey
code_for (errors.LogFull bytes limit) = codes.ShapeTooLarge bytes limit
code_for errors.OutOfMemory = codes.OutOfMemory

-- the definition that it gives the table
abbrev pub definition_for : SnapError → Option TableDef
definition_for (errors.BadSnapshot place) = None
definition_for (errors.DefinitionChanged have got) = Some got
definition_for (errors.Stale last xmax) = None
definition_for errors.WrongWidth = None
definition_for (errors.BadValue column) = None
definition_for (errors.NullKey column) = None
definition_for (errors.DuplicateKey key) = None
definition_for (errors.LogFull bytes limit) = None
definition_for errors.OutOfMemory = None

-- ---- the event

-- it came to the exchange that owns the number, where its head shows transactions
abbrev pub came_by : ℕ → SnapHead → Table → Result Visibility SnapError → Option Event
came_by e head rows (Ok v) = Some (SnapshotCame e (snapshot_of head v rows))
came_by e head rows (Err error) = None

-- The event of a refused snapshot: it came, where the core says itself why it is refused; or it ended in this fault. There is none for want of memory.
abbrev pub event_for : ℕ → SnapHead → Table → SnapError → Option Event
event_for e head rows (errors.BadSnapshot place) = Some (SnapshotEnded e (IsBad details.BadSnapshot))
event_for e head rows (errors.DefinitionChanged have got) = came_by e head rows (seen_of head)
event_for e head rows (errors.Stale last xmax) = came_by e head rows (seen_of head)
event_for e head rows errors.WrongWidth = Some (SnapshotEnded e (IsBad details.WrongWidth))
event_for e head rows (errors.BadValue column) = came_by e head rows (seen_of head)
event_for e head rows (errors.NullKey column) = Some (SnapshotEnded e (IsBad details.NullKey))
event_for e head rows (errors.DuplicateKey key) = Some (SnapshotEnded e (IsBad details.DuplicateKey))
event_for e head rows (errors.LogFull bytes limit) = Some (SnapshotEnded e (TooLarge bytes limit))
event_for e head rows errors.OutOfMemory = None

-- ---- under way

-- A snapshot of a shape is under way: it was started over what the shape reads rows by, the commit before the shape, and this head; it has these rows, and nothing refuses it yet.
pub record IsUnderWay (o : Options) (txs : List Tx) (x : Shape) (head : SnapHead) (rows : Table) (snap : Snap) : Type 0 where
  pub reader : reader_of snap.emitter.test ≡ x.reader
  pub limits : snap.limits ≡ o.limits
  pub least : snap.kept.log.least ≡ o.limits.chunk
  pub shows : seen_of head ≡ Ok snap.vis
  pub none : refusal_in x.reader o.limits (id_before txs x.before) head rows ≡ None
  pub taken : HasTaken x.reader o.limits snap.kept rows

-- it may be given to what is kept: it reads rows as that does
abbrev pub ReadsAs : Snap → Kept → Type 0
ReadsAs snap k = reader_of snap.emitter.test ≡ reader_in k

-- The snapshot was taken: nothing refuses it, and the server stands for the situation in which it came.
pub record IsStarted (o : Options) (v : law.Server) (number : ℕ) (x : Shape) (snapshot : Snapshot) (new : Server) : Type 0 where
  pub allowed : refusal_of_snapshot v.commits x snapshot ≡ None
  pub stands : Stands o (started o v number x snapshot) new
