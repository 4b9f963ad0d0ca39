-- Texts one behind the other, each with a comma behind it, and what contracts see of a log of texts.
use Rattle.std.specs.Prelude.{ℕ, zero, suc, ◌+◌, ◌-◌, Bool, true, ◌&&◌, if◌then◌else◌, List, [], ◌∷◌, ◌++◌, length, slice_range, slice_index}
use Rattle.std.specs.List.{flat_map}
use Rattle.shape_base.specs.declared.offset.Offset.{Offset}
use Rattle.shape_base.specs.declared.offset.Offset.TheVariants.{At}
use Rattle.shape_base.specs.Offsets.{is_before}

-- each text with a comma behind it
abbrev pub closed_by_commas : List (List ℕ) → List ℕ
closed_by_commas [] = []
closed_by_commas (text ∷ texts) = (text ++ 44 ∷ []) ++ closed_by_commas texts

-- texts, joined by commas
abbrev pub joined : List (List ℕ) → List ℕ
joined [] = []
joined (text ∷ texts) = text ++ flat_map (λ next. 44 ∷ next) texts

-- where the comma behind each text ends, where the first text begins in that place
abbrev pub positions : ℕ → List (List ℕ) → List ℕ
positions start [] = []
positions start (text ∷ texts) = (start + length text + 1) ∷ positions (start + length text + 1) texts

-- the texts between such places
abbrev pub pieces : ℕ → List ℕ → List ℕ → List (List ℕ)
pieces start [] bytes = []
pieces start (end ∷ ends) bytes = slice_range bytes start (end - 1) ∷ pieces end ends bytes

-- the place behind the first so many texts and their commas
abbrev pub position : List ℕ → ℕ → ℕ
position ends zero = 0
position ends (suc n) = slice_index ends n

-- each offset is after the one before it, and the first is after o
abbrev pub rise_after : Offset → List Offset → Bool
rise_after o [] = true
rise_after o (x ∷ xs) = is_before o x && rise_after x xs

-- the last offset; `0_0` where there is none
abbrev pub last_from : Offset → List Offset → Offset
last_from o [] = o
last_from o (x ∷ xs) = last_from x xs

abbrev pub end_of : List Offset → Offset
end_of offsets = last_from (At 0 0) offsets

-- how many offsets there are up to the first that is after this one
abbrev pub count_upto : Offset → List Offset → ℕ
count_upto o [] = 0
count_upto o (x ∷ xs) = if is_before o x then 0 else suc (count_upto o xs)

-- The offsets, the text at each, how many more texts take no memory, and for how many bytes of them, commas included, there is room.
pub record TextLogged : Type 0 where
  pub offsets : List Offset
  pub texts : List (List ℕ)
  pub spare : ℕ
  pub room : ℕ
