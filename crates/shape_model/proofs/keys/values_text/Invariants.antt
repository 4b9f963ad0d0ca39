use Rattle.std.proofs.Common.{◌≡◌, take, List, ℕ}
use Rattle.std.specs.Str.{IsUtf8}
use Rattle.shape_base.specs.Tables.{Values}
use Rattle.shape_model.specs.Checks.{values_text}
use Rattle.shape_model.proofs.keys.values_text.Given as goal

-- the text so far
pub record TextSoFar (out : List ℕ) (key : List ℕ) (row : Values) : Type 0 where
  pub is : out ≡ values_text key row
  pub utf8 : IsUtf8 out

abbrev pub invariant-loop-place : goal.invariant-loop-place
invariant-loop-place l = TextSoFar l.out.items (take l.place-index l.place-items) l.row
