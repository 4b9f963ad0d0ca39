-- What a checked clause is, and the answers to a row.
use Rattle.std.specs.Prelude.{◌≡◌, ℕ, Bool, List, length, Result, Ok, Err, Some, None, slice_index_or, if◌then◌else◌}
use Rattle.std.specs.List.{list_any}
use Rattle.shape_base.specs.declared.definition.Column.{Column}
use Rattle.shape_base.specs.declared.truth.Tri.{Tri}
use Rattle.shape_base.specs.declared.value.Value.TheVariants as values
use Rattle.shape_base.specs.declared.row_test.BadValue.{BadValue}
use Rattle.shape_base.specs.Tables.{Values}
use Rattle.shape_base.specs.Shape.{IsLeast}
use Rattle.pg_values.specs.declared.kind.Kind.{Kind}
use Rattle.pg_values.specs.declared.kind.Kind.TheVariants as kinds
use Rattle.where_grammar.specs.Tree.{Tree}
use Rattle.where_eval.specs.declared.checked.Checked.{Checked}
use Rattle.where_eval.specs.declared.faults.CheckError.{CheckError}
use Rattle.where_eval.specs.declared.faults.CheckError.TheVariants as errors
use Rattle.where_eval.specs.Plans.{meaning}
use Rattle.where_eval.specs.Scalars.{tri_of}
use Rattle.where_eval.specs.Truth.{is_unreadable, unread, truth_in, truth_of}
use Rattle.where_eval.specs.declared.leaves.Leaf.{Leaf}
use Rattle.where_eval.specs.Leaves.{leaves, names_place}
use Rattle.where_eval.specs.Kinds.{kind_at}
use Rattle.where_eval.specs.Faults.{fault_of, unknown_column}

-- under which kind the leaves read the column in a place
abbrev pub kind_read : List Column → List Leaf → ℕ → Kind
kind_read c ls place = if list_any (names_place place) ls then kind_at c place else kinds.Other

-- these are the kinds under which the leaves read each column
pub record AreRead (c : List Column) (ls : List Leaf) (read : List Kind) : Type 0 where
  pub wide : length read ≡ length c
  pub each : (place : ℕ) → slice_index_or read place kinds.Other ≡ kind_read c ls place

-- the leaves, none of which is of an unknown name; or the least that is
abbrev pub IsKnown : {A : Type 0} → (A → List Leaf) → List Column → Tree → Result A CheckError → Type 0
IsKnown view c tree (Ok ls) = (view ls ≡ leaves c tree) × (unknown_column c tree ≡ None)
IsKnown view c tree (Err errors.OutOfMemory) = Unit {0}
IsKnown view c tree (Err (errors.UnknownColumn atom)) = unknown_column c tree ≡ Some (errors.UnknownColumn atom)
IsKnown view c tree (Err (errors.TypeMismatch atom)) = ⊥
IsKnown view c tree (Err (errors.BadLiteral atom)) = ⊥

-- how many columns the clause was checked against
abbrev pub width : Checked → ℕ
width checked = length checked.kinds.items

abbrev pub is_unread : List Kind → Values → ℕ → Bool
is_unread read row place = is_unreadable (slice_index_or read place kinds.Other) (slice_index_or row place values.Null)

-- the clause of this tree was checked against these columns
pub record IsChecked (checked : Checked) (c : List Column) (tree : Tree) : Type 0 where
  pub faultless : fault_of c tree ≡ None
  pub wide : width checked ≡ length c
  pub reads : (row : Values) (place : ℕ) → is_unread checked.kinds.items row place ≡ unread c tree row place
  pub means : (row : Values) → tri_of (meaning checked.plan row) ≡ truth_in c row tree

-- what checking must answer; want of memory may come for each clause
abbrev pub IsCheck : List Column → Tree → Result Checked CheckError → Type 0
IsCheck c tree (Ok checked) = IsChecked checked c tree
IsCheck c tree (Err errors.OutOfMemory) = Unit {0}
IsCheck c tree (Err (errors.UnknownColumn atom)) = fault_of c tree ≡ Some (errors.UnknownColumn atom)
IsCheck c tree (Err (errors.TypeMismatch atom)) = fault_of c tree ≡ Some (errors.TypeMismatch atom)
IsCheck c tree (Err (errors.BadLiteral atom)) = fault_of c tree ≡ Some (errors.BadLiteral atom)

-- the truth of the row, or the least column that cannot be read
abbrev pub IsTruth : List Column → Tree → Values → Result Tri BadValue → Type 0
IsTruth c tree row (Ok tri) = truth_of c tree row ≡ Some tri
IsTruth c tree row (Err bad) = (truth_of c tree row ≡ None) × IsLeast (unread c tree row) bad.column
