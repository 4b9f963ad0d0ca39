-- The history of a shape: when it is legal, and what the shape is after it. All of it is worked out from the list of events alone.
use Rattle.std.specs.Prelude.{◌≡◌, ℕ, ◌+◌, ◌<◌, nat_lt, Bool, true, false, not, ◌&&◌, ◌==◌, if◌then◌else◌, List, [], ◌∷◌, ◌++◌, length, map, find, Option, None, Some, unwrap_or, is_none, slice_index_or}
use Rattle.std.specs.List.{sum, flat_map, list_any, last_or, range_with_len}
use Rattle.shape_base.specs.declared.entry.Entry.{Entry}
use Rattle.shape_base.specs.declared.change.Tx.{Tx}
use Rattle.shape_base.specs.declared.value.Value.TheVariants.{Null}
use Rattle.shape_base.specs.declared.limits.Limits.{Limits}
use Rattle.shape_base.specs.declared.cause.Cause.{Cause}
use Rattle.shape_base.specs.declared.cause.Cause.TheVariants.{Truncated, Changed, LogFull, AllLogsFull, PendingFull, BadRow}
use Rattle.shape_base.specs.Tables.{Values, Own, changes_of, is_null, same_def}
use Rattle.shape_base.specs.Snapshot.{Snapshot}
use Rattle.shape_base.specs.Shape.{Knows, is_truncate, is_bad, old_of, new_of, emit, shown}
use Rattle.shape_base.specs.Log.{start_from, unseen, log_over}
use Rattle.shape_json.specs.Body.{capped}
use Rattle.shape_json.specs.Page.{sizes_of}

-- what a shape goes by: what it knows of its definition, and of a row the columns that its where-clause cannot read
pub record Reader : Type 0 where
  pub knows : Knows
  pub unread : Values → ℕ → Bool

-- Its snapshot came; a commit came, while the other logs had so many bytes; or it was dropped from outside.
pub data ShapeEvent : Type 0 where
  Snapped : (snapshot : Snapshot) → ShapeEvent
  Took : (tx : Tx) (others : ℕ) → ShapeEvent
  Dropped : (cause : Cause) → ShapeEvent

-- ---- the parts of a history

-- the snapshot, once it came
abbrev pub snapshot_in : List ShapeEvent → Option Snapshot
snapshot_in [] = None
snapshot_in (Snapped snapshot ∷ events) = Some snapshot
snapshot_in (Took tx others ∷ events) = snapshot_in events
snapshot_in (Dropped cause ∷ events) = snapshot_in events

-- the commits that came, in order
abbrev pub taken : List ShapeEvent → List Tx
taken [] = []
taken (Snapped snapshot ∷ events) = taken events
taken (Took tx others ∷ events) = tx ∷ taken events
taken (Dropped cause ∷ events) = taken events

-- The log over the snapshot and the commits that came.
abbrev pub log_after : Knows → Snapshot → List ShapeEvent → List Entry
log_after s snapshot events = log_over s snapshot.visibility snapshot.rows (taken events)

-- ---- why a shape is dropped

-- the bytes of entries: their texts, without commas
abbrev pub bytes_of : List Entry → ℕ
bytes_of entries = sum (sizes_of entries)

-- the least place of a row that passes a test
abbrev pub least_place : Values → (ℕ → Bool) → ℕ
least_place row test = unwrap_or (find test (range_with_len 0 (length row))) 0

-- a key column that is null in a row
abbrev pub is_null_key : Knows → Values → ℕ → Bool
is_null_key s row place = list_any (λ p. p == place) s.key && is_null (slice_index_or row place Null)

-- the column in which a row cannot be read: the least that is unread where the row has no truth, and else the least of the key that is null
abbrev pub bad_column : Reader → Values → ℕ
bad_column r row = least_place row (if is_none (r.knows.truth row) then r.unread row else is_null_key r.knows row)

-- a row of the commit with that LSN that cannot be read
abbrev pub bad_row : Reader → ℕ → Option Values → Option Cause
bad_row r lsn None = None
bad_row r lsn (Some row) = if is_bad r.knows (Some row) then Some (BadRow lsn (bad_column r row)) else None

abbrev pub or_else : Option Cause → Option Cause → Option Cause
or_else None later = later
or_else (Some cause) later = Some cause

-- Why a change stops a shape: it truncates the table, or else comes under another OID or other columns, or else has a row that cannot be read, the old one before the new one.
abbrev pub stop_of : Reader → ℕ → Own → Option Cause
stop_of r lsn c = if is_truncate c.kind then Some (Truncated lsn)
    else if not (same_def c.definition r.knows.definition) then Some (Changed lsn)
    else or_else (bad_row r lsn (old_of c.kind)) (bad_row r lsn (new_of c.kind))

-- the first of these changes that stops it
abbrev pub first_stop : Reader → ℕ → List Own → Option Cause
first_stop r lsn [] = None
first_stop r lsn (c ∷ cs) = or_else (stop_of r lsn c) (first_stop r lsn cs)

-- a sum that passes its limit
abbrev pub log_full : Limits → ℕ → Option Cause
log_full l bytes = if nat_lt l.log bytes then Some (LogFull (capped bytes) l.log) else None

abbrev pub all_full : Limits → ℕ → Option Cause
all_full l bytes = if nat_lt l.all bytes then Some (AllLogsFull (capped bytes) l.all) else None

abbrev pub pending_full : Limits → ℕ → Option Cause
pending_full l bytes = if nat_lt l.pending bytes then Some (PendingFull (capped bytes) l.pending) else None

-- the entries of a commit
abbrev pub entries_in : Knows → Tx → List Entry
entries_in s tx = flat_map (emit s tx.lsn) (changes_of s.definition.table tx)

-- the bytes of a log with a commit's entries behind it
abbrev pub bytes_with : Knows → ℕ → Tx → ℕ
bytes_with s bytes tx = bytes + bytes_of (entries_in s tx)

-- Why a commit that the snapshot does not show drops a shape whose log has so many bytes: it stops the shape, or else the log would pass its limit.
abbrev pub drop_by : Reader → Limits → ℕ → Tx → Option Cause
drop_by r l bytes tx = or_else (first_stop r tx.lsn (changes_of r.knows.definition.table tx)) (log_full l (bytes_with r.knows bytes tx))

-- the first of these commits that drops it, each behind the entries of those before
abbrev pub drop_among : Reader → Limits → ℕ → List Tx → Option Cause
drop_among r l bytes [] = None
drop_among r l bytes (tx ∷ txs) = or_else (drop_by r l bytes tx) (drop_among r l (bytes_with r.knows bytes tx) txs)

abbrev pub is_empty : List Tx → Bool
is_empty [] = true
is_empty (tx ∷ txs) = false

-- the commit is passed over: the snapshot shows it and all that came before it
abbrev pub is_passed : Snapshot → List Tx → Tx → Bool
is_passed snapshot before tx = is_empty (unseen snapshot.visibility (before ++ tx ∷ []))

-- the bytes of transactions, as their change messages have them
abbrev pub pending_bytes : List Tx → ℕ
pending_bytes txs = sum (map (λ (tx : Tx). tx.bytes) txs)

-- A commit comes to a shape that waits for its snapshot and keeps the commits, or to one that is ready.
abbrev pub drop_at_commit : Reader → Limits → Option Snapshot → List ShapeEvent → Tx → ℕ → Option Cause
drop_at_commit r l None before tx others = pending_full l (pending_bytes (taken before) + tx.bytes)
drop_at_commit r l (Some snapshot) before tx others = if is_passed snapshot (taken before) tx then None
    else or_else (drop_by r l (bytes_of (log_after r.knows snapshot before)) tx) (all_full l (bytes_with r.knows (bytes_of (log_after r.knows snapshot before)) tx + others))

-- Why an event drops the shape after those before it, where it does. With the snapshot come the commits that were kept; the limit of all logs is not tried for them.
abbrev pub drop_at : Reader → Limits → List ShapeEvent → ShapeEvent → Option Cause
drop_at r l before (Dropped cause) = Some cause
drop_at r l before (Took tx others) = drop_at_commit r l (snapshot_in before) before tx others
drop_at r l before (Snapped snapshot) = drop_among r l (bytes_of (start_from 1 (shown r.knows snapshot.rows))) (unseen snapshot.visibility (taken before))

abbrev pub drop_from : Reader → Limits → List ShapeEvent → List ShapeEvent → Option Cause
drop_from r l before [] = None
drop_from r l before (event ∷ events) = or_else (drop_at r l before event) (drop_from r l (before ++ event ∷ []) events)

-- Why these events drop the shape, where they do: the first of them that does says why.
abbrev pub drop_of : Reader → Limits → List ShapeEvent → Option Cause
drop_of r l events = drop_from r l [] events

-- ---- legal histories

-- the LSN of the last commit that came; 0 where none came
abbrev pub last_lsn : List ShapeEvent → ℕ
last_lsn events = unwrap_or (last_or None (map (λ (tx : Tx). tx.lsn) (taken events))) 0

-- what an event itself asks: one snapshot, and commits whose LSNs rise and are above 0
abbrev pub IsInOrder : List ShapeEvent → ShapeEvent → Type 0
IsInOrder events (Snapped snapshot) = snapshot_in events ≡ None
IsInOrder events (Took tx others) = last_lsn events < tx.lsn
IsInOrder events (Dropped cause) = Unit {0}

-- An event may follow these: nothing follows a drop.
pub record MayFollow (r : Reader) (l : Limits) (events : List ShapeEvent) (event : ShapeEvent) : Type 0 where
  pub stands : drop_of r l events ≡ None
  pub in_order : IsInOrder events event

-- Each of the later events may follow those before it.
abbrev pub MayAllFollow : Reader → Limits → List ShapeEvent → List ShapeEvent → Type 0
MayAllFollow r l events [] = Unit {0}
MayAllFollow r l events (event ∷ later) = MayFollow r l events event × MayAllFollow r l (events ++ event ∷ []) later

-- Each event may follow those before it.
abbrev pub IsLegal : Reader → Limits → List ShapeEvent → Type 0
IsLegal r l events = MayAllFollow r l [] events

-- ---- what a shape is

-- It waits for its snapshot and keeps commits, it is ready and has a log, or it is gone.
pub data ShapeState : Type 0 where
  Starting : (buffer : List Tx) → ShapeState
  Ready : (log : List Entry) → ShapeState
  Gone : (cause : Cause) → ShapeState

abbrev pub state_by : Reader → Option Cause → Option Snapshot → List ShapeEvent → ShapeState
state_by r (Some cause) snapshot events = Gone cause
state_by r None None events = Starting (taken events)
state_by r None (Some snapshot) events = Ready (log_after r.knows snapshot events)

-- What a shape is after its events: gone where they drop it; before its snapshot the commits that came; then the log over its snapshot and the commits that came.
abbrev pub state_after : Reader → Limits → List ShapeEvent → ShapeState
state_after r l events = state_by r (drop_of r l events) (snapshot_in events) events
