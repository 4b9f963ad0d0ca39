-- The entries of one change, and the rows that cannot be read.
use Rattle.std.specs.Prelude.{◌≡◌, ℕ, Bool, true, List, ◌++◌, length, Option, None, Some, MatchOption, MatchBool, IsSome}
use Rattle.std.specs.Option.{option_to_list, option_and_then}
use Rattle.shape_base.specs.declared.change.ChangeKind.{ChangeKind}
use Rattle.shape_base.specs.declared.change.ChangeKind.TheVariants.{Insert, Update, Delete, Truncate}
use Rattle.shape_base.specs.declared.definition.TableDef.{TableDef}
use Rattle.shape_base.specs.declared.entry.Entry.{Entry}
use Rattle.shape_base.specs.Tables.{Values, Table, Own, changed, FitsDef, IsOldThere}
use Rattle.shape_base.specs.Shape.{Knows, IsLeast, is_bad, old_of, new_of, have_truths, shape_rows}
use Rattle.shape_base.specs.Log.{fold_from}
use Rattle.change_map.specs.declared.emitting.Emitted.{Emitted}
use Rattle.change_map.specs.Keys.{is_null_key}

-- the entries in order
abbrev pub in_order : Emitted → List Entry
in_order e = option_to_list e.first ++ option_to_list e.second

-- change number j, under the shape's definition
abbrev pub own : Knows → ℕ → ChangeKind → Own
own s j kind = record { number = j; definition = s.definition; kind = kind }

-- It is no truncation, and its rows are as wide as the definition.
abbrev pub IsWhole : TableDef → ChangeKind → Type 0
IsWhole d (Insert new) = length new ≡ length d.columns
IsWhole d (Update old new) = (length old ≡ length d.columns) × (length new ≡ length d.columns)
IsWhole d (Delete old) = length old ≡ length d.columns
IsWhole d Truncate = ⊥

-- Where a row cannot be read: in the least column that is unread, where it has no truth, and else in the least key column that is null.
abbrev pub IsBadAt : Knows → (Values → ℕ → Bool) → Values → ℕ → Type 0
IsBadAt s unread row column = MatchOption (s.truth row) (IsLeast (unread row) column) (λ truth. IsLeast (is_null_key s.key row) column)

abbrev pub IsThereAndBadAt : Knows → (Values → ℕ → Bool) → Option Values → ℕ → Type 0
IsThereAndBadAt s unread None column = ⊥
IsThereAndBadAt s unread (Some row) column = IsBadAt s unread row column

-- Where a change has a row that cannot be read: the old row goes before the new one.
abbrev pub IsChangeBadAt : Knows → (Values → ℕ → Bool) → ChangeKind → ℕ → Type 0
IsChangeBadAt s unread kind column = MatchBool (is_bad s (old_of kind)) (IsThereAndBadAt s unread (old_of kind) column) (IsThereAndBadAt s unread (new_of kind) column)

-- The entries of a change lead the selected rows before it to those after it.
abbrev pub LeadsOver : Knows → ChangeKind → List Entry → Type 0
LeadsOver s kind es = (rows : Table) → FitsDef s.served s.definition rows → IsOldThere kind rows → FitsDef s.served s.definition (changed kind rows) → have_truths s rows ≡ true
    → (option_and_then (fold_from es) (shape_rows s rows) ≡ shape_rows s (changed kind rows)) × IsSome (shape_rows s (changed kind rows))
