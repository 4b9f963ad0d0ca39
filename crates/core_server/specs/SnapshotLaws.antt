-- How a dialogue's course is an event of the core.
use Rattle.std.specs.Prelude.{◌≡◌, ℕ, true, List, [], ◌++◌, length, None, Some, Ok, IsSomeAnd, slice_get}
use Rattle.std.specs.Option.{option_map}
use Rattle.shape_base.specs.declared.change.Tx.{Tx}
use Rattle.shape_base.specs.Tables.{Table}
use Rattle.shape_base.specs.Visibility.{Visibility}
use Rattle.shape_base.specs.RegistryHistory.{is_starting, last_id}
use Rattle.shape_json.specs.ShapeHistory.{snapshot_in}
use Rattle.pg_dialogue.specs.declared.login.SnapHead.{SnapHead}
use Rattle.shape_snapshot.specs.declared.faults.SnapError.{SnapError}
use Rattle.shape_snapshot.specs.Refusals.{seen_of, start_of}
use Rattle.core_law.specs.Situation.{Options, Shape, Situation, at_start, shape_at}
use Rattle.core_law.specs.Steps.{owned_by, id_before, refusal_of_snapshot, snapshot_ends, started}
use Rattle.core_law.specs.Clients.{finished, never}
use Rattle.core_law.specs.Run.{Event, SnapshotCame, turn_of, after}
use Rattle.core_law.specs.Laws.{IsStart}
use Rattle.core_server.specs.Snapshots.{Snap, snapshot_of, error_in, refusal_in, code_for, definition_for, event_for, IsUnderWay}

-- An exchange owns a number that is starting, and this is its shape, whose snapshot has not come.
pub record IsOwner (s : Situation) (e n : ℕ) (x : Shape) : Type 0 where
  pub owns : owned_by (slice_get s.exchanges e) ≡ Some n
  pub shape : shape_at s.server.shapes n ≡ Some x
  pub starting : is_starting s.server.registry n ≡ true
  pub none : snapshot_in x.events ≡ None

-- The head is refused exactly where the core refuses a snapshot that shows what it shows, and with that code.
abbrev pub HeadsAreRefused : Type 0
HeadsAreRefused = (txs : List Tx) (x : Shape) (head : SnapHead) (v : Visibility) → seen_of head ≡ Ok v
    → refusal_of_snapshot txs x (snapshot_of head v []) ≡ option_map code_for (error_in (start_of x.reader.knows.definition (id_before txs x.before) head))

-- A snapshot that nothing refuses makes its number ready, or drops it.
abbrev pub SnapshotsCome : Type 0
SnapshotsCome = (o : Options) (s : Situation) (e n : ℕ) (x : Shape) (head : SnapHead) (rows : Table) (v : Visibility) → IsOwner s e n x → seen_of head ≡ Ok v
    → refusal_in x.reader o.limits (id_before s.server.commits x.before) head rows ≡ None
    → turn_of o s (SnapshotCame e (snapshot_of head v rows)) ≡ finished o never s (record s { server = started o s.server n x (snapshot_of head v rows) })

-- A refused one ends: its event, with the rows up to the one that is refused, gives the owner the code of the refusal, removes the number, and gives the table its new definition.
abbrev pub SnapshotsEnd : Type 0
SnapshotsEnd = (o : Options) (s : Situation) (e n : ℕ) (x : Shape) (head : SnapHead) (rows : Table) (error : SnapError) → IsOwner s e n x
    → refusal_in x.reader o.limits (id_before s.server.commits x.before) head rows ≡ Some error
    → IsSomeAnd (event_for e head rows error) (λ event. turn_of o s event ≡ finished o never s (snapshot_ends s e n (code_for error) (definition_for error)))

-- The id of the last commit is that of the last transaction that the registry took.
abbrev pub LastIsTaken : Type 0
LastIsTaken = (o : Options) (events : List Event) → let v = (after o at_start events).server in id_before v.commits (length v.commits) ≡ last_id v.registry

-- A snapshot stays under way, whatever happens.
abbrev pub StaysUnderWay : Type 0
StaysUnderWay = (o : Options) (events later : List Event) (n : ℕ) (x y : Shape) (head : SnapHead) (rows : Table) (snap : Snap) → IsStart o
    → shape_at (after o at_start events).server.shapes n ≡ Some x → shape_at (after o at_start (events ++ later)).server.shapes n ≡ Some y
    → IsUnderWay o (after o at_start events).server.commits x head rows snap → IsUnderWay o (after o at_start (events ++ later)).server.commits y head rows snap
