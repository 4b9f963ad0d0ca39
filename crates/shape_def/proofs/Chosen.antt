-- The places of the chosen columns, and the set of the chosen names.
use Rattle.std.proofs.Common.{◌≡◌, ℕ, ◌+◌, ◌<◌, Bool, true, false, List, [], ◌∷◌, ◌++◌, length, drop, get_or, refl, sym, ◌∙◌, ap, append_assoc, Some}
use Rattle.std.specs.Bool.{if◌then◌else◌}
use Rattle.std.specs.BTreeSet.{BTreeSet}
use Rattle.shape_base.specs.declared.definition.Column.{Column}
use Rattle.column_names.proofs.Lemmas.{cut_at}
use Rattle.shape_def.specs.Identity.{Names, in_order}
use Rattle.shape_def.specs.Chosen.{is_in}
use Rattle.shape_def.specs.Definition.{is_chosen, places_from}
use Rattle.shape_def.proofs.Sets.{in_set}

place_step : (b : Bool) (i : ℕ) (rest : List ℕ) → (if b then i ∷ rest else rest) ≡ (if b then i ∷ [] else []) ++ rest
place_step true i rest = refl
place_step false i rest = refl

pub places_more : (passes : List ℕ → Bool) (cs : List Column) (i : ℕ) (c : Column) (out new all : List ℕ) → i < length cs → c ≡ get_or cs i c → new ≡ out ++ (if passes c.name then i ∷ [] else [])
    → out ++ places_from passes i (drop i cs) ≡ all → new ++ places_from passes (i + 1) (drop (i + 1) cs) ≡ all
places_more passes cs i c out new all lt is more before =
    ap (λ x. x ++ places_from passes (i + 1) (drop (i + 1) cs)) more ∙ append_assoc out (if passes c.name then i ∷ [] else []) (places_from passes (i + 1) (drop (i + 1) cs))
    ∙ ap (λ x. out ++ x) (sym (place_step (passes c.name) i (places_from passes (i + 1) (drop (i + 1) cs)))) ∙ ap (λ ds. out ++ places_from passes i ds) (sym (cut_at cs i c lt is)) ∙ before

-- the set of the chosen names
pub set_chooses : (set : BTreeSet (List ℕ)) (names : Names) → set.keys ≡ in_order names → is_in (Some set) ≡ is_chosen (Some names)
set_chooses set names e = λ i q. in_set set names e q i
