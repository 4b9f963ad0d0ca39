-- What a shape answers, by its events.
use Rattle.std.specs.Prelude.{◌≡◌, ◌≢◌, ℕ, Bool, true, false, List, [], ◌∷◌, ◌++◌, Option, None, Some}
use Rattle.std.specs.Str.{IsUtf8}
use Rattle.shape_base.specs.declared.cause.Cause.{Cause}
use Rattle.shape_base.specs.declared.change.Tx.{Tx}
use Rattle.shape_base.specs.declared.entry.Entry.{Entry}
use Rattle.shape_base.specs.declared.limits.Limits.{Limits}
use Rattle.shape_base.specs.declared.offset.Offset.{Offset}
use Rattle.shape_base.specs.Offsets.{is_before, past}
use Rattle.shape_base.specs.Log.{end_of}
use Rattle.shape_base.specs.Snapshot.{Snapshot}
use Rattle.chunked_log.specs.Chunked.{Writes, Carries}
use Rattle.shape_json.specs.Page.{page_of}
use Rattle.shape_json.specs.ShapeHistory.{Reader, ShapeEvent, Took, ShapeState, Starting, Ready, Gone, snapshot_in, taken, entries_in, bytes_of, is_passed, drop_at, drop_of, state_after}
use Rattle.shape_state.specs.declared.prepared.Prepared.{Prepared}
use Rattle.shape_state.specs.declared.prepared.Prepared.TheVariants as prepared
use Rattle.shape_state.specs.declared.shape.ReadyError.{ReadyError}
use Rattle.shape_state.specs.declared.shape.ReadyError.TheVariants as ready
use Rattle.shape_state.specs.declared.paged.Paged.{Paged}
use Rattle.shape_state.specs.declared.paged.Paged.TheVariants as paged
use Rattle.shape_state.specs.declared.paged.Stage.{Stage}
use Rattle.shape_state.specs.declared.paged.Stage.TheVariants as stage

-- ---- commits

-- the snapshot came, and it shows this commit and all before it
abbrev pub passes : Option Snapshot → List ShapeEvent → Tx → Bool
passes None events tx = false
passes (Some snapshot) events tx = is_passed snapshot (taken events) tx

-- A shape that stands for these events appends: the commit is not passed over, does not drop it, and its entries were written.
pub record Appends (r : Reader) (events : List ShapeEvent) (tx : Tx) (cause : Option Cause) : Type 0 where
  pub snapshot : Snapshot
  pub came : snapshot_in events ≡ Some snapshot
  pub not_passed : is_passed snapshot (taken events) tx ≡ false
  pub none : cause ≡ None

-- what a shape that is not dropped prepares for a commit
abbrev pub IsPreparedBy : Reader → Limits → List ShapeEvent → Tx → ℕ → Prepared → Type 0
IsPreparedBy r l events tx others prepared.Skip = passes (snapshot_in events) events tx ≡ true
IsPreparedBy r l events tx others (prepared.Buffer copy) = (snapshot_in events ≡ None) × (drop_at r l events (Took tx others) ≡ None) × (copy ≡ tx)
IsPreparedBy r l events tx others (prepared.Append written) = Appends r events tx (drop_at r l events (Took tx others)) × Writes written (entries_in r.knows tx)
IsPreparedBy r l events tx others (prepared.Drop cause) = drop_at r l events (Took tx others) ≡ Some cause

-- what one that is dropped prepares
abbrev pub IsSkip : Prepared → Type 0
IsSkip prepared.Skip = Unit {0}
IsSkip (prepared.Buffer copy) = ⊥
IsSkip (prepared.Append written) = ⊥
IsSkip (prepared.Drop cause) = ⊥

abbrev pub IsPreparedWhere : Option Cause → Reader → Limits → List ShapeEvent → Tx → ℕ → Prepared → Type 0
IsPreparedWhere None r l events tx others p = IsPreparedBy r l events tx others p
IsPreparedWhere (Some cause) r l events tx others p = IsSkip p

-- What is prepared for a commit after these events, while the other logs have so many bytes: to skip it where the shape is dropped or the commit is passed over; to buffer it where no snapshot came; to
-- append its entries; or to drop the shape, for the cause that the history has.
abbrev pub IsPrepared : Reader → Limits → List ShapeEvent → Tx → ℕ → Prepared → Type 0
IsPrepared r l events tx others p = IsPreparedWhere (drop_of r l events) r l events tx others p

-- ---- snapshots

-- the shape was dropped before, for this cause; or memory was wanted for one that was not
abbrev pub IsReadyError : Option Cause → ReadyError → Type 0
IsReadyError drop (ready.Gone cause) = drop ≡ Some cause
IsReadyError drop ready.OutOfMemory = drop ≡ None

-- ---- pages

-- a live request that is not late waits
abbrev pub waits : Bool → Bool → Bool
waits false late = false
waits true false = true
waits true true = false

abbrev pub IsPagedOf : ℕ → List Entry → Offset → Bool → Bool → Paged → Type 0
IsPagedOf chunk log o live late (paged.Page page) = (is_before (end_of log) o ≡ false) × Carries page (page_of chunk log o) × (waits live late ≡ true → past o log ≢ [])
IsPagedOf chunk log o live late paged.NotYet = (waits live late ≡ true) × (is_before (end_of log) o ≡ false) × (past o log ≡ [])
IsPagedOf chunk log o live late paged.Starting = ⊥
IsPagedOf chunk log o live late (paged.Gone cause) = ⊥
IsPagedOf chunk log o live late (paged.OffsetAhead end) = (end ≡ end_of log) × (is_before (end_of log) o ≡ true)

-- What a request for a page is answered: the page of the log; nothing yet where it waits and there is nothing past the offset; or why there is no page.
abbrev pub IsPaged : ℕ → ShapeState → Offset → Bool → Bool → Paged → Type 0
IsPaged chunk (Starting buffer) o live late p = p ≡ paged.Starting
IsPaged chunk (Ready log) o live late p = IsPagedOf chunk log o live late p
IsPaged chunk (Gone cause) o live late p = p ≡ paged.Gone cause

-- The bytes of a page are UTF-8.
abbrev pub HasUtf8 : Paged → Type 0
HasUtf8 (paged.Page page) = IsUtf8 page.inner
HasUtf8 paged.NotYet = Unit {0}
HasUtf8 paged.Starting = Unit {0}
HasUtf8 (paged.Gone cause) = Unit {0}
HasUtf8 (paged.OffsetAhead end) = Unit {0}

-- ---- the rest

abbrev pub stage_of : ShapeState → Stage
stage_of (Starting buffer) = stage.Starting
stage_of (Ready log) = stage.Ready
stage_of (Gone cause) = stage.Gone cause

-- the bytes of its log; 0 where it has none
abbrev pub log_bytes : ShapeState → ℕ
log_bytes (Starting buffer) = 0
log_bytes (Ready log) = bytes_of log
log_bytes (Gone cause) = 0
