-- The items of a list, one after the other.
use Rattle.std.proofs.Common.{◌≡◌, ℕ, ◌+◌, ◌<◌, ◌≤◌, List, [], ◌∷◌, length, get_or, drop, map, refl, sym, ap, ◌∙◌, arith, add-one}
use Rattle.std.proofs.lemmas.List.{drop-map, length-drop, nil_from_length}
use Rattle.std.proofs.Math.Seq.{drop-cons}

pub next_item : {A : Type 0} (xs : List A) (i : ℕ) (d : A) → i < length xs → drop i xs ≡ get_or xs i d ∷ drop (i + 1) xs
next_item xs i d lt = rw (add-one, drop-cons xs i d) refl

pub no_item : {A : Type 0} (xs : List A) (i : ℕ) → length xs ≤ i → drop i xs ≡ []
no_item xs i le = nil_from_length (drop i xs) (omega (arith, length-drop i xs, le))

pub next_of : {A B : Type 0} (f : A → B) (xs : List A) (i : ℕ) (d : A) → i < length xs → drop i (map f xs) ≡ f (get_or xs i d) ∷ drop (i + 1) (map f xs)
next_of f xs i d lt = drop-map f i xs ∙ ap (map f) (next_item xs i d lt) ∙ ap (λ (ys : List _). f (get_or xs i d) ∷ ys) (sym (drop-map f (i + 1) xs))

pub none_of : {A B : Type 0} (f : A → B) (xs : List A) (i : ℕ) → length xs ≤ i → drop i (map f xs) ≡ []
none_of f xs i le = drop-map f i xs ∙ ap (map f) (no_item xs i le)
