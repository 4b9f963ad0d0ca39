use Rattle.std.proofs.Common.{◌≡◌, ◌++◌, List, length}
use Rattle.std.specs.FinMap as fin
use Rattle.shape_base.specs.declared.entry.KeyedRow.{KeyedRow}
use Rattle.shape_base.specs.Shape.{Keyed, Map}
use Rattle.shape_base.specs.Maps.{map_in}
use Rattle.shape_model.specs.Maps.{pairs_of}
use Rattle.shape_model.proofs.rows.by_key.Given as goal

-- the map has the last rows
pub record HasLast (all left : List KeyedRow) (shown : Map) : Type 0 where
  pub back : List Keyed
  pub all_are : pairs_of all ≡ pairs_of left ++ back
  pub shown_is : shown ≡ fin.from_entries back

abbrev pub invariant-loop-row : goal.invariant-loop-row
invariant-loop-row l = HasLast l.fn.rows l.rows.items (map_in l.shown)

abbrev pub decreases-loop-row : goal.decreases-loop-row
decreases-loop-row l = length l.rows.items
