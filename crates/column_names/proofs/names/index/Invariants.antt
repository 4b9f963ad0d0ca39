use Rattle.std.proofs.Common.{◌≡◌, ◌≤◌, ℕ, List, length, drop}
use Rattle.shape_base.specs.Tables.{place_of}
use Rattle.column_names.specs.Names.{has_name_twice}
use Rattle.column_names.specs.Places.{place_under}
use Rattle.column_names.proofs.Indexing.{moved}
use Rattle.column_names.proofs.names.index.Given as goal

-- the map has the columns from here on
abbrev pub invariant-loop-left : goal.invariant-loop-left
invariant-loop-left l = record {
  within : l.left ≤ length l.columns;
  finds : (name : List ℕ) → place_under l.places name ≡ moved l.left (place_of (drop l.left l.columns) name);
  repeats : l.repeats ≡ has_name_twice (drop l.left l.columns);
}

abbrev pub decreases-loop-left : goal.decreases-loop-left
decreases-loop-left l = l.left
