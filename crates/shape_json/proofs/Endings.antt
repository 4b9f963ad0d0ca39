-- The end of a body.
use Rattle.std.proofs.Common.{◌≡◌, ℕ, List, [], ◌∷◌, ◌++◌, Bool, true, false, length, map, refl, sym, ap, ◌∙◌, codes, ◌==◌, arith, append_assoc, append-nil}
use Rattle.std.proofs.lemmas.Grind.{flat_map-append}
use Rattle.std.proofs.lemmas.Bool.{ne_eqb}
use Rattle.std.specs.List.{flat_map}
use Rattle.shape_base.specs.declared.entry.Entry.{Entry}
use Rattle.shape_json.specs.declared.control.Control.{Control}
use Rattle.shape_json.specs.declared.control.Control.TheVariants.{Nothing, UpToDate, MustRefetch}
use Rattle.shape_json.specs.Body.{joined, entry_text, control_texts, inner_text, body_text}
use Rattle.shape_json.specs.Buffer.{ending}

abbrev pub is_empty : {X : Type 0} → List X → Bool
is_empty [] = true
is_empty (x ∷ xs) = false

joined-append : (x : List ℕ) (xs ys : List (List ℕ)) → joined (x ∷ xs ++ ys) ≡ joined (x ∷ xs) ++ flat_map (λ (next : List ℕ). 44 ∷ next) ys
joined-append x xs ys = ap (λ (l : List ℕ). x ++ l) (flat_map-append (λ (next : List ℕ). 44 ∷ next) xs ys) ∙ sym (append_assoc x _ _)

behind : (t : List ℕ) (control : Control) → t ++ flat_map (λ (next : List ℕ). 44 ∷ next) (control_texts control) ++ 93 ∷ [] ≡ t ++ ending false control
behind t Nothing = ap (λ (l : List ℕ). l ++ 93 ∷ []) (append-nil t)
behind t UpToDate = append_assoc t _ (93 ∷ [])
behind t MustRefetch = append_assoc t _ (93 ∷ [])

alone : (control : Control) → joined (control_texts control) ++ 93 ∷ [] ≡ ending true control
alone Nothing = refl
alone UpToDate = refl
alone MustRefetch = refl

-- a body is its entries and then its ending
pub body_is : (es : List Entry) (control : Control) → codes "[" ++ inner_text es ++ ending (is_empty es) control ≡ body_text es control
body_is [] control = ap (λ (l : List ℕ). 91 ∷ l) (sym (alone control))
body_is (e ∷ es) control =
    ap (λ (l : List ℕ). 91 ∷ l)
    (sym (ap (λ (l : List ℕ). l ++ 93 ∷ []) (joined-append (entry_text e) (map entry_text es) (control_texts control)) ∙ behind (inner_text (e ∷ es)) control))

-- the texts of entries are empty where there are none
pub is_empty-inner_text : (es : List Entry) → is_empty (inner_text es) ≡ is_empty es
is_empty-inner_text [] = refl
is_empty-inner_text (e ∷ es) = refl

pub no_length : {X : Type 0} (xs : List X) → (length xs == 0) ≡ is_empty xs
no_length [] = refl
no_length (x ∷ xs) = ne_eqb (length (x ∷ xs)) 0 (λ e. omega (arith, e))
