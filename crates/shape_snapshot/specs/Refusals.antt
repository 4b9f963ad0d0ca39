-- Why a snapshot, or a row of it, is refused.
use Rattle.std.specs.Prelude.{◌≡◌, ◌⊎◌, ℕ, ◌-◌, Bool, not, ◌&&◌, ◌==◌, nat_lt, if◌then◌else◌, List, [], ◌∷◌, ◌++◌, length, Option, None, Some, is_none, Result, Ok, Err}
use Rattle.std.specs.List.{list_any}
use Rattle.std.specs.Cmp.Lexicographic.{pointwise}
use Rattle.shape_base.specs.declared.definition.TableDef.{TableDef}
use Rattle.shape_base.specs.declared.entry.Entry.{Entry}
use Rattle.shape_base.specs.declared.limits.Limits.{Limits}
use Rattle.shape_base.specs.Tables.{Values, Table, same_text, same_column, lacks_key}
use Rattle.shape_base.specs.Shape.{Knows, Keyed, key_text, picks, shown}
use Rattle.shape_base.specs.Log.{start_from}
use Rattle.shape_base.specs.Visibility.{Visibility, is_visible}
use Rattle.snapshot_merge.specs.VisText.{visibility_of}
use Rattle.shape_json.specs.Body.{capped}
use Rattle.shape_json.specs.ShapeHistory.{Reader, bytes_of, bad_column}
use Rattle.pg_dialogue.specs.declared.login.SnapHead.{SnapHead}
use Rattle.shape_snapshot.specs.declared.faults.SnapError.{SnapError}
use Rattle.shape_snapshot.specs.declared.faults.SnapError.TheVariants as errors

-- ---- what a snapshot says before its rows

-- which transactions it shows, by the text of that and its length; or the place of the first wrong byte
abbrev pub placed : ℕ → Result Visibility ℕ → Result Visibility SnapError
placed size (Ok v) = Ok v
placed size (Err left) = Err (errors.BadSnapshot (size - left))

abbrev pub seen_of : SnapHead → Result Visibility SnapError
seen_of head = placed (length head.vis) (visibility_of head.vis)

-- the definition of this table that the snapshot has
abbrev pub definition_got : TableDef → SnapHead → TableDef
definition_got have head = record { table = have.table; oid = head.oid; columns = head.columns }

-- the OID and the columns are the definition's
abbrev pub is_defined_so : TableDef → SnapHead → Bool
is_defined_so have head = (have.oid == head.oid) && pointwise same_column have.columns head.columns

-- the last transaction that was taken, if there is one, has to be visible
abbrev pub fresh_of : Option ℕ → Visibility → Result Visibility SnapError
fresh_of None v = Ok v
fresh_of (Some last) v = if is_visible v last then Ok v else Err (errors.Stale last v.xmax)

abbrev pub started_over : TableDef → Option ℕ → SnapHead → Result Visibility SnapError → Result Visibility SnapError
started_over have last head (Err e) = Err e
started_over have last head (Ok v) = if is_defined_so have head then fresh_of last v else Err (errors.DefinitionChanged have (definition_got have head))

-- Which transactions a snapshot shows, where it may be started over this definition after that transaction; or why it may not: its visibility cannot be read, its
-- table has another OID or other columns, or it does not show the transaction.
abbrev pub start_of : TableDef → Option ℕ → SnapHead → Result Visibility SnapError
start_of have last head = started_over have last head (seen_of head)

-- ---- its rows

-- what a test of rows knows, and the columns that it cannot read
abbrev pub reader_of : Knows → (Values → ℕ → Bool) → Reader
reader_of s unread = record { knows = s; unread = unread }

-- Why a row is refused, whatever came before: it is not as wide as the definition, has no truth, or has a null key value.
abbrev pub fault_of : Reader → Values → Option SnapError
fault_of r row = if not (length row == length r.knows.definition.columns) then Some errors.WrongWidth
    else if is_none (r.knows.truth row) then Some (errors.BadValue (bad_column r row))
    else if lacks_key r.knows.key row then Some (errors.NullKey (bad_column r row))
    else None

-- the log of rows: an insert for each that is selected, at `0_1`, `0_2` and on
abbrev pub log_of : Knows → Table → List Entry
log_of s rows = start_from 1 (shown s rows)

-- the text is the key of one of these rows that are selected
abbrev pub is_taken_key : Knows → Table → List ℕ → Bool
is_taken_key s rows key = list_any (λ (k : Keyed). same_text key k.0) (shown s rows)

-- a log of so many bytes would pass its limit
abbrev pub full_of : Limits → ℕ → Option SnapError
full_of l bytes = if nat_lt l.log bytes then Some (errors.LogFull (capped bytes) l.log) else None

-- why an entry is refused by its key, which came before or did not, and by the bytes of the log with it
abbrev pub refusal_by : Limits → Bool → List ℕ → ℕ → Option SnapError
refusal_by l came key bytes = if came then Some (errors.DuplicateKey key) else full_of l bytes

-- Why a selected row is refused behind these rows: its key is one of theirs, or the log would pass its limit.
abbrev pub refusal_behind : Knows → Limits → Table → Values → Option SnapError
refusal_behind s l rows row = refusal_by l (is_taken_key s rows (key_text s row)) (key_text s row) (bytes_of (log_of s (rows ++ row ∷ [])))

abbrev pub or_else : Option SnapError → Option SnapError → Option SnapError
or_else None later = later
or_else (Some e) later = Some e

-- Why a row is refused behind these rows; none where it is taken.
abbrev pub refusal_of : Reader → Limits → Table → Values → Option SnapError
refusal_of r l rows row = or_else (fault_of r row) (if picks r.knows row then refusal_behind r.knows l rows row else None)

-- ---- what is answered

-- memory was wanted, or this is the answer
abbrev pub IsRefusal : {A : Type 0} → Result A SnapError → SnapError → Type 0
IsRefusal answer e = (e ≡ errors.OutOfMemory) ⊎ (answer ≡ Err e)

abbrev pub IsCause : Option SnapError → SnapError → Type 0
IsCause refusal e = (e ≡ errors.OutOfMemory) ⊎ (refusal ≡ Some e)
