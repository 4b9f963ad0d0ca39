-- Key texts, and places in the order of their names.
use Rattle.std.proofs.Common.{◌≡◌, ℕ, suc, ◌+◌, ◌<◌, Bool, true, false, List, [], ◌∷◌, ◌++◌, length, take, drop, get_or, refl, sym, ◌∙◌, ap, subst, add-one, append_assoc, drop-cons}
use Rattle.std.proofs.lemmas.List.{take_more}
use Rattle.std.specs.List.{slice_index_or}
use Rattle.std.specs.Ordering.{nat_cmp, is_lt}
use Rattle.std.specs.Cmp.Lexicographic.{slice_cmp}
use Rattle.std.specs.Str.{IsUtf8}
use Rattle.std.proofs.lemmas.Str.{IsUtf8-append}
use Rattle.std.proofs.Math.Utf8.{encode, encodes}
use Rattle.shape_base.specs.declared.definition.TableDef.{TableDef}
use Rattle.shape_base.specs.declared.value.Value.TheVariants.{Null}
use Rattle.shape_base.specs.Tables.{Values}
use Rattle.shape_base.specs.Shape.{quoted, name_at, put_place}
use Rattle.shape_base.proofs.Lemmas.{IsUtf8-quoted}
use Rattle.shape_model.specs.Checks.{value_text, values_text}

-- ---- key texts

dot_is : encodes (46 ∷ []) ≡ 46 ∷ []
unfolding encode
dot_is = refl

-- the names of a table are UTF-8
pub front_utf8 : (ns name front : List ℕ) → front ≡ quoted ns ++ 46 ∷ quoted name → IsUtf8 ns → IsUtf8 name → IsUtf8 front
front_utf8 ns name front is first second =
    let dot : IsUtf8 (46 ∷ []) = (46 ∷ [], (refl, dot_is)) in
    subst IsUtf8 (sym is) (IsUtf8-append (quoted ns) (46 ∷ quoted name) (IsUtf8-quoted ns first) (IsUtf8-append (46 ∷ []) (quoted name) dot (IsUtf8-quoted name second)))

-- one value more
pub values_left : (key : List ℕ) (row : Values) (i p : ℕ) (all out new : List ℕ) → i < length key → p ≡ get_or key i 0 → all ≡ out ++ values_text (drop i key) row → new ≡ out ++ value_text (slice_index_or row p Null) → all ≡ new ++ values_text (drop (i + 1) key) row
values_left key row i p all out new lt at so_far added =
    let next : drop i key ≡ p ∷ drop (i + 1) key = rw add-one (drop-cons key i 0 lt ∙ ap (λ (q : ℕ). q ∷ drop (suc i) key) (sym at)) in
    so_far
    ∙ ap (λ (ks : List ℕ). out ++ values_text ks row) next
    ∙ sym (append_assoc out (value_text (slice_index_or row p Null)) (values_text (drop (i + 1) key) row))
    ∙ ap (λ (t : List ℕ). t ++ values_text (drop (i + 1) key) row) (sym added)

-- ---- places by names

abbrev pub is_before : TableDef → ℕ → ℕ → Bool
is_before d p q = is_lt (slice_cmp nat_cmp (name_at d p) (name_at d q))

pub put_stops : (d : TableDef) (order : List ℕ) (i p q : ℕ) → i < length order → q ≡ get_or order i 0 → is_before d p q ≡ true → put_place d p order ≡ take i order ++ put_place d p (drop i order) → put_place d p order ≡ take i order ++ p ∷ drop i order
put_stops d order i p q lt at before so_far =
    let next : drop i order ≡ q ∷ drop (suc i) order = drop-cons order i 0 lt ∙ ap (λ (x : ℕ). x ∷ drop (suc i) order) (sym at) in
    let here : put_place d p (q ∷ drop (suc i) order) ≡ p ∷ q ∷ drop (suc i) order = rw before refl in
    so_far ∙ ap (λ (xs : List ℕ). take i order ++ put_place d p xs) next ∙ ap (λ (xs : List ℕ). take i order ++ xs) (here ∙ ap (λ (xs : List ℕ). p ∷ xs) (sym next))

pub put_goes_on : (d : TableDef) (order : List ℕ) (i p q : ℕ) → i < length order → q ≡ get_or order i 0 → is_before d p q ≡ false → put_place d p order ≡ take i order ++ put_place d p (drop i order) → put_place d p order ≡ take (i + 1) order ++ put_place d p (drop (i + 1) order)
put_goes_on d order i p q lt at before so_far =
    let next : drop i order ≡ q ∷ drop (i + 1) order = rw add-one (drop-cons order i 0 lt ∙ ap (λ (x : ℕ). x ∷ drop (suc i) order) (sym at)) in
    let here : put_place d p (q ∷ drop (i + 1) order) ≡ q ∷ put_place d p (drop (i + 1) order) = rw before refl in
    let more : take (i + 1) order ≡ take i order ++ q ∷ [] = take_more order i 0 lt ∙ ap (λ (x : ℕ). take i order ++ x ∷ []) (sym at) in
    so_far
    ∙ ap (λ (xs : List ℕ). take i order ++ put_place d p xs) next
    ∙ ap (λ (xs : List ℕ). take i order ++ xs) here
    ∙ sym (append_assoc (take i order) (q ∷ []) (put_place d p (drop (i + 1) order)))
    ∙ ap (λ (xs : List ℕ). xs ++ put_place d p (drop (i + 1) order)) (sym more)
