-- Exchanges that are answered in some places.
use Rattle.std.proofs.Common.{◌≡◌, ℕ, zero, suc, ◌+◌, ◌≤◌, ◌<◌, Bool, true, false, ◌||◌, ◌==◌, List, [], ◌∷◌, ◌++◌, refl, sym, ap, subst, ◌∙◌, Option, arith}
use Rattle.std.specs.Prelude.{slice_get, cond, nat_lt}
use Rattle.std.specs.Bool.{if◌then◌else◌}
use Rattle.std.specs.Option.{option_map}
use Rattle.std.specs.Ordering.{nat_cmp}
use Rattle.std.specs.declared.cmp.Ordering.TheVariants.{Less, Equal, Greater}
use Rattle.std.specs.List.{AllByRecursion, flat_map}
use Rattle.std.specs.List.Sorted.{IsStrictlySortedBy}
use Rattle.std.proofs.lemmas.Bool.Decides.{Decides-eqb, Decides-ltb, nat_tests}
use Rattle.core_events.specs.declared.out.Out.{Out}
use Rattle.core_law.specs.Situation.{Exchange}
use Rattle.core_law.specs.Steps.{change_at}
use Rattle.core_exchanges.specs.Indexing.{is_among}
use Rattle.core_machine.specs.Answering.{text_at, settled_at, texts_at}

-- ---- lists

pub same_lists : {A : Type 0} (xs ys : List A) → ((i : ℕ) → slice_get xs i ≡ slice_get ys i) → xs ≡ ys
same_lists [] [] h = refl
same_lists [] (y ∷ ys) h = let e = h 0 in cc
same_lists (x ∷ xs) [] h = let e = h 0 in cc
same_lists (x ∷ xs) (y ∷ ys) h =
    let e = h 0 in
    let head : x ≡ y = cc in
    ap (λ zs. x ∷ zs) (same_lists xs ys (λ i. h (suc i))) ∙ ap (λ z. z ∷ ys) head

pub changed_here : {A : Type 0} (f : A → A) (xs : List A) (p : ℕ) → slice_get (change_at f xs p) p ≡ option_map f (slice_get xs p)
changed_here f [] p = refl
changed_here f (x ∷ xs) zero = refl
changed_here f (x ∷ xs) (suc p) = changed_here f xs p

pub changed_apart : {A : Type 0} (f : A → A) (xs : List A) (p q : ℕ) → (p ≡ q → ⊥) → slice_get (change_at f xs p) q ≡ slice_get xs q
changed_apart f [] p q other = refl
changed_apart f (x ∷ xs) zero zero other = absurd (other refl)
changed_apart f (x ∷ xs) zero (suc q) other = refl
changed_apart f (x ∷ xs) (suc p) zero other = refl
changed_apart f (x ∷ xs) (suc p) (suc q) other = changed_apart f xs p q (λ e. other (ap suc e))

-- ---- places that rise

less_if : (x y : ℕ) (a b : Bool) → nat_lt x y ≡ a → cond a Less (cond b Equal Greater) ≡ Less → nat_lt x y ≡ true
less_if x y true b e h = e
less_if x y false true e h = cc
less_if x y false false e h = cc

pub below : (x y : ℕ) → nat_cmp x y ≡ Less → x < y
below x y h = (Decides-ltb x y).0 (less_if x y (nat_lt x y) (x == y) refl h)

-- one that is below all is not among them
not_among : (p q : ℕ) (places : List ℕ) → AllByRecursion (λ (y : ℕ). nat_cmp p y ≡ Less) places → q ≤ p → is_among q places ≡ false
not_among p q [] all le = refl
not_among p q (r ∷ rs) all le = pick (r == q) refl (not_among p q rs all.1 le)
  where
    pick : (b : Bool) → (r == q) ≡ b → is_among q rs ≡ false → (b || is_among q rs) ≡ false
    pick true e rest = let lt = below p r all.0 in let same = (Decides-eqb r q).0 e in absurd (omega (arith, lt, same, le))
    pick false e rest = rest

-- the first is below the others, and these rise
pub sorted_first : (p : ℕ) (ps : List ℕ) → IsStrictlySortedBy nat_cmp (p ∷ ps) → AllByRecursion (λ (y : ℕ). nat_cmp p y ≡ Less) ps
unfolding IsStrictlySortedBy
sorted_first p ps h = h.0

pub sorted_rest : (p : ℕ) (ps : List ℕ) → IsStrictlySortedBy nat_cmp (p ∷ ps) → IsStrictlySortedBy nat_cmp ps
unfolding IsStrictlySortedBy
sorted_rest p ps h = h.1

pub one_sorted : (p : ℕ) → IsStrictlySortedBy nat_cmp (p ∷ [])
unfolding IsStrictlySortedBy
one_sorted p = (tt, tt)

apart_same : (p q : ℕ) {P : Type 0} → ((p == q) ≡ true → p ≡ q → P) → ((p == q) ≡ false → (p ≡ q → ⊥) → P) → P
apart_same p q {P} same other = pick (p == q) refl
  where
    no : (p == q) ≡ false → p ≡ q → ⊥
    no e k = let t = (Decides-eqb p q).1 k in cc

    pick : (b : Bool) → (p == q) ≡ b → P
    pick true e = same e ((Decides-eqb p q).0 e)
    pick false e = other e (no e)

-- the texts of so many places from one on
abbrev pub texts_over : (ℕ → List Out) → ℕ → ℕ → List Out
texts_over t zero i = []
texts_over t (suc k) i = t i ++ texts_over t k (i + 1)

module _ (f : ℕ → Exchange → Exchange) where
  -- each place is answered once
  pub settled_get : (places : List ℕ) (xs : List Exchange) (q : ℕ) → IsStrictlySortedBy nat_cmp places → slice_get (settled_at f places xs) q ≡ (if is_among q places then option_map (f q) (slice_get xs q) else slice_get xs q)
  settled_get [] xs q sorted = refl
  settled_get (p ∷ ps) xs q sorted =
      let rest = settled_get ps (change_at (f p) xs p) q (sorted_rest p ps sorted) in
      apart_same p q
      (λ e same. rest ∙ ap (λ b. if b then option_map (f q) (slice_get (change_at (f p) xs p) q) else slice_get (change_at (f p) xs p) q) (not_among p q ps (sorted_first p ps sorted) (omega (arith, same)))
      ∙ subst (λ k. slice_get (change_at (f p) xs p) k ≡ option_map (f k) (slice_get xs k)) same (changed_here (f p) xs p)
      ∙ sym (ap (λ b. if b || is_among q ps then option_map (f q) (slice_get xs q) else slice_get xs q) e))
      (λ e other. rest ∙ ap (λ (x : Option Exchange). if is_among q ps then option_map (f q) x else x) (changed_apart (f p) xs p q other)
      ∙ sym (ap (λ b. if b || is_among q ps then option_map (f q) (slice_get xs q) else slice_get xs q) e))

  -- ---- what is put out

  pub flat_same : (t u : ℕ → List Out) (places : List ℕ) → AllByRecursion (λ (q : ℕ). t q ≡ u q) places → flat_map t places ≡ flat_map u places
  flat_same t u [] h = refl
  flat_same t u (p ∷ ps) h = ap (λ zs. zs ++ flat_map t ps) h.0 ∙ ap (λ zs. u p ++ zs) (flat_same t u ps h.1)

  others_stay : (p : ℕ) (xs : List Exchange) (places : List ℕ) → AllByRecursion (λ (y : ℕ). nat_cmp p y ≡ Less) places → AllByRecursion (λ (q : ℕ). text_at f q (slice_get (change_at (f p) xs p) q) ≡ text_at f q (slice_get xs q)) places
  others_stay p xs [] all = tt
  others_stay p xs (q ∷ qs) all = (let lt = below p q all.0 in ap (text_at f q) (changed_apart (f p) xs p q (λ e. omega (arith, lt, e))), others_stay p xs qs all.1)

  pub texts_flat : (places : List ℕ) (xs : List Exchange) → IsStrictlySortedBy nat_cmp places → texts_at f places xs ≡ flat_map (λ p. text_at f p (slice_get xs p)) places
  texts_flat [] xs sorted = refl
  texts_flat (p ∷ ps) xs sorted =
      ap (λ zs. text_at f p (slice_get xs p) ++ zs) (texts_flat ps (change_at (f p) xs p) (sorted_rest p ps sorted) ∙ flat_same (λ q. text_at f q (slice_get (change_at (f p) xs p) q)) (λ q. text_at f q (slice_get xs q)) ps (others_stay p xs ps (sorted_first p ps sorted)))

-- ---- each place from one on

-- they rise from there on
abbrev Above : ℕ → List ℕ → Type 0
Above i [] = Unit {0}
Above i (p ∷ ps) = (i ≤ p) × Above (p + 1) ps

above_from : (p : ℕ) (ps : List ℕ) → AllByRecursion (λ (y : ℕ). nat_cmp p y ≡ Less) ps → IsStrictlySortedBy nat_cmp ps → Above (p + 1) ps
above_from p [] all sorted = tt
above_from p (q ∷ qs) all sorted = (let lt = below p q all.0 in omega (arith, lt), above_from q qs (sorted_first q qs sorted) (sorted_rest q qs sorted))

pub above_all : (places : List ℕ) → IsStrictlySortedBy nat_cmp places → Above 0 places
above_all [] sorted = tt
above_all (p ∷ ps) sorted = (omega arith, above_from p ps (sorted_first p ps sorted) (sorted_rest p ps sorted))

or_of : (a b : Bool) → a ≡ false → b ≡ false → (a || b) ≡ false
or_of a b e k = ap (λ c. c || b) e ∙ k

not_equal : (p q : ℕ) → (p ≡ q → ⊥) → (p == q) ≡ false
not_equal p q other = apart_same p q (λ e same. absurd (other same)) (λ e no. e)

not_above : (i q : ℕ) (places : List ℕ) → Above i places → q < i → is_among q places ≡ false
not_above i q [] h lt = refl
not_above i q (p ∷ ps) h lt = let le = h.0 in or_of (p == q) (is_among q ps) (not_equal p q (λ e. omega (arith, le, lt, e))) (not_above (p + 1) q ps h.1 (omega (arith, le, lt)))

not_less : (a b : ℕ) → a ≤ b → nat_lt a b ≡ false → a ≡ b
not_less a b h e = grind (arith, nat_tests, h, e)

apart_less : (a b : ℕ) → a ≤ b → (a ≡ b → ⊥) → a + 1 ≤ b
apart_less a b h n = pick (nat_lt a b) refl
  where
    pick : (c : Bool) → nat_lt a b ≡ c → a + 1 ≤ b
    pick true e = let lt = (Decides-ltb a b).0 e in omega (arith, lt)
    pick false e = absurd (n (not_less a b h e))

widen : (i k : ℕ) (places : List ℕ) → AllByRecursion (λ (p : ℕ). p < i + suc k) places → AllByRecursion (λ (p : ℕ). p < (i + 1) + k) places
widen i k [] h = tt
widen i k (r ∷ rs) h = (let lt = h.0 in omega (arith, lt), widen i k rs h.1)

-- what is put out at places from one on
abbrev Quiet : (ℕ → List Out) → ℕ → List ℕ → Type 0
Quiet t i places = (q : ℕ) → i ≤ q → is_among q places ≡ false → t q ≡ []

pub texts_all : (t : ℕ → List Out) (k i : ℕ) (places : List ℕ) → Above i places → AllByRecursion (λ (p : ℕ). p < i + k) places → Quiet t i places → flat_map t places ≡ texts_over t k i
texts_all t zero i [] above inside quiet = refl
texts_all t zero i (p ∷ ps) above inside quiet = let le = above.0 in let lt = inside.0 in absurd (omega (arith, le, lt))
texts_all t (suc k) i [] above inside quiet = texts_all t k (i + 1) [] tt tt (λ q le none. quiet q (omega (arith, le)) none) ∙ sym (ap (λ zs. zs ++ texts_over t k (i + 1)) (quiet i (omega arith) refl))
texts_all t (suc k) i (p ∷ ps) above inside quiet = apart_same i p
    (λ e same. here same (texts_all t k (i + 1) ps))
    (λ e other. later other (texts_all t k (i + 1) (p ∷ ps)))
  where
    here : i ≡ p → (Above (i + 1) ps → AllByRecursion (λ (p : ℕ). p < (i + 1) + k) ps → Quiet t (i + 1) ps → flat_map t ps ≡ texts_over t k (i + 1)) → flat_map t (p ∷ ps) ≡ texts_over t (suc k) i
    here same rest = ap (λ zs. zs ++ flat_map t ps) (ap t (sym same)) ∙ ap (λ zs. t i ++ zs)
        (rest (subst (λ n. Above (n + 1) ps) (sym same) above.1) (widen i k ps inside.1) (λ q le none. quiet q (omega (arith, le)) (or_of (p == q) (is_among q ps) (not_equal p q (λ f. omega (arith, le, same, f))) none)))

    later : (i ≡ p → ⊥) → (Above (i + 1) (p ∷ ps) → AllByRecursion (λ (p : ℕ). p < (i + 1) + k) (p ∷ ps) → Quiet t (i + 1) (p ∷ ps) → flat_map t (p ∷ ps) ≡ texts_over t k (i + 1)) → flat_map t (p ∷ ps) ≡ texts_over t (suc k) i
    later other rest =
        let up : Above (i + 1) (p ∷ ps) = (apart_less i p above.0 other, above.1) in
        rest up (widen i k (p ∷ ps) inside) (λ q le none. quiet q (omega (arith, le)) none)
        ∙ sym (ap (λ zs. zs ++ texts_over t k (i + 1)) (quiet i (omega arith) (not_above (i + 1) i (p ∷ ps) up (omega arith))))
