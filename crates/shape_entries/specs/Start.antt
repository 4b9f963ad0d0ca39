-- The rows of a snapshot that are taken.
use Rattle.std.specs.Prelude.{ℕ, Bool, true, false, not, ◌&&◌, ◌||◌, ◌==◌, if◌then◌else◌, List, [], ◌∷◌, length, map, Some}
use Rattle.std.specs.List.{list_all}
use Rattle.shape_base.specs.Tables.{Values, Table, same_text}
use Rattle.shape_base.specs.Shape.{Knows, key_text, is_bad}

-- as wide as the definition, with a truth and a key
abbrev pub is_good_row : Knows → Values → Bool
is_good_row s row = (length row == length s.definition.columns) && not (is_bad s (Some row))

-- each text is new: it was not seen before, and does not come twice
abbrev pub are_new : (List ℕ → Bool) → List (List ℕ) → Bool
are_new seen [] = true
are_new seen (x ∷ xs) = if seen x then false else are_new (λ q. same_text q x || seen q) xs

abbrev pub are_good_after : (List ℕ → Bool) → Knows → Table → Bool
are_good_after seen s rows = list_all (is_good_row s) rows && are_new seen (map (key_text s) rows)

-- Each row is as wide as the definition, with a truth and a key, and no key comes twice.
abbrev pub are_good : Knows → Table → Bool
are_good s rows = are_good_after (λ key. false) s rows
