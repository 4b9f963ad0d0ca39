-- The set of the program in which chosen names are looked up.
use Rattle.std.specs.Prelude.{ℕ, Bool, true, List, Option, None, Some}
use Rattle.std.specs.Ordering.{nat_cmp}
use Rattle.std.specs.Cmp.Lexicographic.{slice_cmp}
use Rattle.std.specs.BTreeSet.{BTreeSet, contains}

-- the set has the name; without a set all are in
abbrev pub is_in : Option (BTreeSet (List ℕ)) → List ℕ → Bool
is_in None name = true
is_in (Some set) name = contains (slice_cmp nat_cmp) set name
