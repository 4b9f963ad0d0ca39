-- Rows under the entries of a log.
use Rattle.std.specs.Prelude.{◌≡◌, ℕ, List, [], ◌∷◌, Option, None, Some, IsSomeAnd, Result, Ok, Err}
use Rattle.std.specs.FinMap as fin
use Rattle.shape_base.specs.declared.entry.Cell.{Cell}
use Rattle.shape_base.specs.declared.entry.KeyedRow.{KeyedRow}
use Rattle.shape_base.specs.declared.entry.Entry.{Entry}
use Rattle.shape_base.specs.declared.entry.Op.{Op}
use Rattle.shape_base.specs.Shape.{Keyed, Map}
use Rattle.shape_base.specs.Log.{fold_op, fold_from, first_fault}
use Rattle.fold_client.specs.declared.rows.Undo.{Undo}
use Rattle.fold_client.specs.declared.rows.Fault.{Fault}

-- a row as the program has it
abbrev pub keyed_row : Keyed → KeyedRow
keyed_row row = record { key = row.0; cells = row.1 }

-- what stood under a key is put back
abbrev pub restored : List ℕ → Option (List Cell) → Map → Map
restored key None m = fin.remove m key
restored key (Some cells) m = fin.insert m key cells

-- what was folded is undone, the last first
abbrev pub undone : List Undo → Map → Map
undone [] m = m
undone (u ∷ us) m = restored u.key u.before (undone us m)

-- an entry was folded as this operation, and can be undone; or it was not, the fault is its, and the rows are as they were
abbrev pub Steps : Op → Entry → Map → Map → Result Undo Fault → Type 0
Steps op e old new (Ok u) = (fold_op op e.key e.cells old ≡ Some new) × (restored u.key u.before new ≡ old)
Steps op e old new (Err fault) = (fold_op op e.key e.cells old ≡ None) × (new ≡ old) × (fault.offset ≡ e.offset) × (fault.key ≡ e.key)

-- The entries were folded; or the first one that does not find what it needs is this, and the rows are as they were.
abbrev pub IsFolded : List Entry → Map → Map → Option Fault → Type 0
IsFolded entries old new None = fold_from entries old ≡ Some new
IsFolded entries old new (Some fault) = (new ≡ old) × IsSomeAnd (first_fault entries old) (λ e. (e.offset ≡ fault.offset) × (e.key ≡ fault.key))
