-- What a shape keeps, and the events for which it stands.
use Rattle.std.specs.Prelude.{◌≡◌, ℕ, ◌<◌, ◌≤◌, Bool, true, false, List, [], ◌∷◌, ◌++◌, length, Option, None, Some}
use Rattle.shape_base.specs.declared.cause.Cause.{Cause}
use Rattle.shape_base.specs.declared.change.Tx.{Tx}
use Rattle.shape_base.specs.declared.limits.Limits.{Limits}
use Rattle.shape_base.specs.Snapshot.{Snapshot}
use Rattle.shape_base.specs.Transactions.{IsWhole}
use Rattle.shape_base.specs.Log.{unseen}
use Rattle.shape_log.specs.Texts.{end_of, rise_after}
use Rattle.shape_json.specs.Body.{capped}
use Rattle.shape_json.specs.ShapeHistory.{Reader, ShapeEvent, Took, snapshot_in, taken, log_after, entries_in, is_empty, is_passed, drop_at, drop_of, IsLegal}
use Rattle.chunked_log.specs.Chunked.{Writes, Holds, HasRoom}
use Rattle.shape_state.specs.Later.{lsn_in, last_of}
use Rattle.shape_state.specs.Buffered.{Buffered}
use Rattle.shape_state.specs.declared.state.Logging.{Logging}
use Rattle.shape_state.specs.declared.state.Kept.{Kept}
use Rattle.shape_state.specs.declared.state.Kept.TheVariants as kept
use Rattle.shape_state.specs.declared.state.State.{State}
use Rattle.shape_state.specs.declared.prepared.Prepared.{Prepared}
use Rattle.shape_state.specs.declared.prepared.Prepared.TheVariants as prepared

-- It waits for its snapshot: the commits that came are buffered.
pub record IsWaiting (r : Reader) (l : Limits) (events : List ShapeEvent) (commits : Buffered) : Type 0 where
  pub stands : drop_of r l events ≡ None
  pub none : snapshot_in events ≡ None
  pub txs : commits.txs ≡ taken events

-- It is ready: its log is that of its snapshot and the commits that came.
pub record IsLogging (r : Reader) (l : Limits) (events : List ShapeEvent) (g : Logging) : Type 0 where
  pub stands : drop_of r l events ≡ None
  pub snapshot : Snapshot
  pub came : snapshot_in events ≡ Some snapshot
  pub visibility : g.vis ≡ snapshot.visibility
  pub log : Holds g.log (log_after r.knows snapshot events)
  pub least : g.log.least ≡ l.chunk
  -- whether the snapshot shows all commits that came
  pub shown : g.all_shown ≡ is_empty (unseen snapshot.visibility (taken events))

abbrev pub Keeps : Reader → Limits → List ShapeEvent → Kept → Type 0
Keeps r l events (kept.Waiting commits) = IsWaiting r l events commits
Keeps r l events (kept.Logging logging) = IsLogging r l events logging
Keeps r l events (kept.Gone cause) = drop_of r l events ≡ Some cause

-- The shape stands for these events: they are legal, it has counted the commits among them, and it keeps what a shape is after them.
pub record Stands (r : Reader) (s : State) (events : List ShapeEvent) : Type 0 where
  pub legal : IsLegal r s.limits events
  pub took : s.took ≡ capped (length (taken events))
  pub keeps : Keeps r s.limits events s.kept

-- the events with one more; those of a shape that is dropped stay
abbrev pub with_event : Option Cause → List ShapeEvent → ShapeEvent → List ShapeEvent
with_event None events event = events ++ event ∷ []
with_event (Some cause) events event = events

-- The events for which a shape stands after one more.
abbrev pub after : Reader → Limits → List ShapeEvent → ShapeEvent → List ShapeEvent
after r l events event = with_event (drop_of r l events) events event

-- ---- commits

-- A commit with that LSN comes after each commit that waits, or after the end of the log.
abbrev pub IsLater : Kept → ℕ → Type 0
IsLater (kept.Waiting commits) lsn = last_of commits.txs < lsn
IsLater (kept.Logging logging) lsn = lsn_in (end_of logging.log.offsets) < lsn
IsLater (kept.Gone cause) lsn = Unit {0}

-- There is room for a commit that waits, and it comes after the others.
pub record IsRoomy (commits : Buffered) (tx : Tx) : Type 0 where
  pub spare : 1 ≤ commits.spare
  pub whole : IsWhole tx
  pub later : last_of commits.txs < tx.lsn

-- What was prepared fits the shape: it takes no memory, and its offsets come after the log's end.
abbrev pub Fits : Kept → Prepared → Type 0
Fits (kept.Waiting commits) prepared.Skip = ⊥
Fits (kept.Waiting commits) (prepared.Buffer tx) = IsRoomy commits tx
Fits (kept.Waiting commits) (prepared.Append written) = ⊥
Fits (kept.Waiting commits) (prepared.Drop cause) = Unit {0}
Fits (kept.Logging logging) prepared.Skip = Unit {0}
Fits (kept.Logging logging) (prepared.Buffer tx) = ⊥
Fits (kept.Logging logging) (prepared.Append written) = HasRoom logging.log written × (rise_after (end_of logging.log.offsets) written.offsets ≡ true)
Fits (kept.Logging logging) (prepared.Drop cause) = Unit {0}
Fits (kept.Gone cause) prepared.Skip = Unit {0}
Fits (kept.Gone cause) (prepared.Buffer tx) = ⊥
Fits (kept.Gone cause) (prepared.Append written) = ⊥
Fits (kept.Gone cause) (prepared.Drop other) = ⊥

abbrev pub is_gone_in : Kept → Bool
is_gone_in (kept.Waiting commits) = false
is_gone_in (kept.Logging logging) = false
is_gone_in (kept.Gone cause) = true

-- no snapshot was taken
abbrev pub IsUnready : Kept → Type 0
IsUnready (kept.Waiting commits) = Unit {0}
IsUnready (kept.Logging logging) = ⊥
IsUnready (kept.Gone cause) = Unit {0}
