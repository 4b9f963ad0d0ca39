-- Lists that grow, or change in one place.
use Rattle.std.proofs.Common.{◌≡◌, ℕ, zero, suc, ◌<◌, List, [], ◌∷◌, ◌++◌, length, refl, ap, arith, Option, Some, ◌⊎◌, inl, inr}
use Rattle.std.specs.List.{slice_get}
use Rattle.core_law.specs.Steps.{change_at}

-- what stands in a place before a change, and what it became
pub record Before {A : Type 0} (f : A → A) (o : Option A) (y : A) : Type 0 where
  pub was : A
  pub there : o ≡ Some was
  pub same_or : (y ≡ was) ⊎ (y ≡ f was)

pub changed_back : {A : Type 0} (f : A → A) (xs : List A) (i j : ℕ) (y : A) → slice_get (change_at f xs i) j ≡ Some y → Before f (slice_get xs j) y
changed_back f [] i j y h = cc
changed_back f (x ∷ xs) zero zero y h = record { was = x; there = refl; same_or = inr cc }
changed_back f (x ∷ xs) zero (suc j) y h = record { was = y; there = h; same_or = inl refl }
changed_back f (x ∷ xs) (suc i) zero y h = record { was = x; there = refl; same_or = inl cc }
changed_back f (x ∷ xs) (suc i) (suc j) y h = changed_back f xs i j y h

pub record Later {A : Type 0} (f : A → A) (o : Option A) (x : A) : Type 0 where
  pub now : A
  pub there : o ≡ Some now
  pub same_or : (now ≡ x) ⊎ (now ≡ f x)

pub changed_forth : {A : Type 0} (f : A → A) (xs : List A) (i j : ℕ) (x : A) → slice_get xs j ≡ Some x → Later f (slice_get (change_at f xs i) j) x
changed_forth f [] i j x h = cc
changed_forth f (y ∷ xs) zero zero x h = record { now = f y; there = refl; same_or = inr (let e : y ≡ x = cc in ap f e) }
changed_forth f (y ∷ xs) zero (suc j) x h = record { now = x; there = h; same_or = inl refl }
changed_forth f (y ∷ xs) (suc i) zero x h = record { now = y; there = refl; same_or = inl cc }
changed_forth f (y ∷ xs) (suc i) (suc j) x h = changed_forth f xs i j x h

pub changed_here : {A : Type 0} (f : A → A) (xs : List A) (i : ℕ) (x : A) → slice_get xs i ≡ Some x → slice_get (change_at f xs i) i ≡ Some (f x)
changed_here f [] i x h = cc
changed_here f (y ∷ xs) zero x h = let e : y ≡ x = cc in ap (λ z. Some (f z)) e
changed_here f (y ∷ xs) (suc i) x h = changed_here f xs i x h

pub length_changed : {A : Type 0} (f : A → A) (xs : List A) (i : ℕ) → length (change_at f xs i) ≡ length xs
length_changed f [] i = refl
length_changed f (x ∷ xs) zero = refl
length_changed f (x ∷ xs) (suc i) = ap (λ n. suc n) (length_changed f xs i)

pub place_stays : {A : Type 0} (xs ys : List A) (i : ℕ) (x : A) → slice_get xs i ≡ Some x → slice_get (xs ++ ys) i ≡ Some x
place_stays [] ys i x h = cc
place_stays (y ∷ xs) ys zero x h = h
place_stays (y ∷ xs) ys (suc i) x h = place_stays xs ys i x h

pub one_more : {A : Type 0} (xs : List A) (y : A) (i : ℕ) (x : A) → slice_get (xs ++ y ∷ []) i ≡ Some x → (slice_get xs i ≡ Some x) ⊎ ((i ≡ length xs) × (y ≡ x))
one_more [] y zero x h = inr (refl, cc)
one_more [] y (suc i) x h = cc
one_more (z ∷ xs) y zero x h = inl h
one_more (z ∷ xs) y (suc i) x h = elim (one_more xs y i x h) [ inl e ↦ inl e | inr e ↦ inr (ap (λ n. suc n) e.0, e.1) ]

pub last_place : {A : Type 0} (xs : List A) (x : A) → slice_get (xs ++ x ∷ []) (length xs) ≡ Some x
last_place [] x = refl
last_place (y ∷ xs) x = last_place xs x

pub place_before : {A : Type 0} (xs ys : List A) (i : ℕ) → i < length xs → slice_get (xs ++ ys) i ≡ slice_get xs i
place_before [] ys i h = absurd (omega (arith, h))
place_before (x ∷ xs) ys zero h = refl
place_before (x ∷ xs) ys (suc i) h = place_before xs ys i (omega (arith, h))

pub some_same : {A : Type 0} (a b : A) → Some a ≡ Some b → a ≡ b
some_same a b e = cc
