use Rattle.std.proofs.Common.{◌≡◌, ◌++◌, drop}
use Rattle.std.specs.Str.{IsUtf8}
use Rattle.shape_model.specs.Checks.{values_text}
use Rattle.shape_model.proofs.keyed.push_values.Given as goal

-- what is left gives the texts of the other values
abbrev pub invariant-loop-place : goal.invariant-loop-place
invariant-loop-place l = record {
  more : l.fn.out.items ++ values_text l.key l.row ≡ l.out.items ++ values_text (drop l.place-index l.key) l.row;
  utf8 : IsUtf8 l.fn.out.items → IsUtf8 l.out.items;
}
