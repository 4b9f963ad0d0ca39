-- What a shape shows of a table.
use Rattle.std.specs.Prelude.{◌≡◌, ℕ, Bool, true, List, take, None, Some, slice_get}
use Rattle.std.specs.Option.{option_map}
use Rattle.std.specs.FinMap as fin
use Rattle.shape_base.specs.declared.entry.KeyedRow.{KeyedRow}
use Rattle.shape_base.specs.Tables.{Values, Table}
use Rattle.shape_base.specs.Shape.{Knows, IsLeast, have_truths, shape_rows}
use Rattle.shape_model.specs.declared.folds.ModelError.{ModelError}
use Rattle.shape_model.specs.declared.folds.ModelError.TheVariants as errors
use Rattle.shape_model.specs.Maps.{pairs_of}

-- the shape's rows over a table are these, in byte order of their keys
abbrev pub AreShapeRows : Knows → Table → List KeyedRow → Type 0
AreShapeRows s table rows = option_map fin.entries (shape_rows s table) ≡ Some (pairs_of rows)

-- the row has no truth, and this is its least column that cannot be read
pub record IsUnread (s : Knows) (unread : Values → ℕ → Bool) (row : Values) (column : ℕ) : Type 0 where
  pub no_truth : s.truth row ≡ None
  pub least : IsLeast (unread row) column

-- the same of the first row of a table that has none
pub record IsFirstUnread (s : Knows) (unread : Values → ℕ → Bool) (table : Table) (column : ℕ) : Type 0 where
  pub place : ℕ
  pub row : Values
  pub there : slice_get table place ≡ Some row
  pub before : have_truths s (take place table) ≡ true
  pub is_unread : IsUnread s unread row column

-- why a row is not read, unless memory ran out
abbrev pub CannotRead : Knows → (Values → ℕ → Bool) → Values → ModelError → Type 0
CannotRead s unread row errors.OutOfMemory = Unit {0}
CannotRead s unread row (errors.BadFold place) = ⊥
CannotRead s unread row (errors.BadValue column) = IsUnread s unread row column

-- why the shape has no rows over a table, unless memory ran out
abbrev pub HasUnread : Knows → (Values → ℕ → Bool) → Table → ModelError → Type 0
HasUnread s unread table errors.OutOfMemory = Unit {0}
HasUnread s unread table (errors.BadFold place) = ⊥
HasUnread s unread table (errors.BadValue column) = IsFirstUnread s unread table column
