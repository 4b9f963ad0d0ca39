use Rattle.std.proofs.Common.{◌≡◌, ◌∷◌, ◌++◌, map, drop}
use Rattle.std.specs.List.{flat_map, AllByRecursion}
use Rattle.std.specs.Str.{IsUtf8}
use Rattle.shape_base.specs.Tables.{key_values}
use Rattle.shape_base.specs.Shape.{quoted, words_of}
use Rattle.change_map.proofs.key.push_values.Given as goal

-- what is left gives the values of the other key columns
abbrev pub invariant-loop-place : goal.invariant-loop-place
invariant-loop-place l = record {
  added : l.fn.out.items ++ flat_map (λ v. 47 ∷ quoted (words_of v)) (key_values l.key l.row) ≡ l.out.items ++ flat_map (λ v. 47 ∷ quoted (words_of v)) (key_values (drop l.place-index l.key) l.row);
  words : AllByRecursion IsUtf8 (map words_of (key_values (drop l.place-index l.key) l.row)) → AllByRecursion IsUtf8 (map words_of (key_values l.key l.row));
  utf8 : IsUtf8 l.fn.out.items → IsUtf8 l.out.items;
}
