-- The map of places by names.
use Rattle.std.specs.Prelude.{◌≡◌, ℕ, Bool, List, Option}
use Rattle.std.specs.Ordering.{nat_cmp}
use Rattle.std.specs.Cmp.Lexicographic.{slice_cmp}
use Rattle.std.specs.BTreeMap.{BTreeMap, get}
use Rattle.shape_base.specs.declared.definition.Column.{Column}
use Rattle.shape_base.specs.Tables.{place_of}
use Rattle.column_names.specs.Names.{has_name_twice}

-- the place that the map has for a name
abbrev pub place_under : BTreeMap (List ℕ) ℕ → List ℕ → Option ℕ
place_under places name = get (slice_cmp nat_cmp) places name

-- for each name the map has the place of the first column of that name, and it is known whether a name stands twice
pub record IsIndexed (places : BTreeMap (List ℕ) ℕ) (repeated : Bool) (c : List Column) : Type 0 where
  pub finds : place_under places ≡ place_of c
  pub repeats : repeated ≡ has_name_twice c
