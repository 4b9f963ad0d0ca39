-- What a call that writes does to its buffer.
use Rattle.std.specs.Prelude.{◌≡◌, ℕ, ◌+◌, ◌≤◌, Bool, true, false, List, ◌++◌, length, codes, Vec}
use Rattle.std.specs.Vec.{vec_len, vec_capacity}
use Rattle.std.specs.Str.{IsUtf8}
use Rattle.shape_json.specs.declared.control.Control.{Control}
use Rattle.shape_json.specs.declared.control.Control.TheVariants.{Nothing, UpToDate, MustRefetch}

-- the buffer has room for so many bytes more
abbrev pub HasRoom : {A : Type 0} → Vec ℕ A → ℕ → Type 0
HasRoom buffer bytes = vec_len buffer + bytes ≤ vec_capacity buffer

-- The text stands behind what the buffer had; its room is less by the text's length at most, and UTF-8 stays UTF-8.
pub record Adds {A : Type 0} (old new : Vec ℕ A) (text : List ℕ) : Type 0 where
  pub is : new.items ≡ old.items ++ text
  pub len : vec_len new ≡ vec_len old + length text
  pub room : vec_capacity old ≤ vec_capacity new
  pub utf8 : IsUtf8 old.items → IsUtf8 new.items

-- what stands behind the entries of a body: the control, behind a comma unless it is alone, and the bracket
abbrev pub ending : Bool → Control → List ℕ
ending alone Nothing = codes "]"
ending true UpToDate = codes "{\"headers\":{\"control\":\"up-to-date\"}}]"
ending false UpToDate = codes ",{\"headers\":{\"control\":\"up-to-date\"}}]"
ending true MustRefetch = codes "{\"headers\":{\"control\":\"must-refetch\"}}]"
ending false MustRefetch = codes ",{\"headers\":{\"control\":\"must-refetch\"}}]"
