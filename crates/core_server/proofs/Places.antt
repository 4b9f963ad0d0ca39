-- A list of shapes of which one place changes.
use Rattle.std.proofs.Common.{◌≡◌, ℕ, zero, suc, Bool, true, false, ◌==◌, List, [], ◌∷◌, length, refl, ap, None}
use Rattle.std.specs.List.{slice_get}
use Rattle.std.specs.Option.{option_map}
use Rattle.std.proofs.lemmas.Bool.Decides.{Decides-eqb}
use Rattle.core_law.specs.Situation.{Shape, shape_at}
use Rattle.core_law.specs.Steps.{change_at, change_shape}

at_here : (f : Shape → Shape) (xs : List Shape) (i : ℕ) → slice_get (change_at f xs i) i ≡ option_map f (slice_get xs i)
at_here f [] i = refl
at_here f (x ∷ xs) zero = refl
at_here f (x ∷ xs) (suc i) = at_here f xs i

at_apart : (f : Shape → Shape) (xs : List Shape) (i j : ℕ) → (i ≡ j → ⊥) → slice_get (change_at f xs i) j ≡ slice_get xs j
at_apart f [] i j h = refl
at_apart f (x ∷ xs) zero zero h = absurd (h refl)
at_apart f (x ∷ xs) zero (suc j) h = refl
at_apart f (x ∷ xs) (suc i) zero h = refl
at_apart f (x ∷ xs) (suc i) (suc j) h = at_apart f xs i j (λ e. h (ap (λ n. suc n) e))

-- in the place of the number stands the changed shape
pub shape_here : (f : Shape → Shape) (xs : List Shape) (n : ℕ) → shape_at (change_shape f xs n) n ≡ option_map f (shape_at xs n)
shape_here f xs zero = refl
shape_here f xs (suc i) = at_here f xs i

-- elsewhere stands what stood there
pub shape_apart : (f : Shape → Shape) (xs : List Shape) (n m : ℕ) → (n ≡ m → ⊥) → shape_at (change_shape f xs n) m ≡ shape_at xs m
shape_apart f xs n zero h = refl
shape_apart f xs zero (suc j) h = refl
shape_apart f xs (suc i) (suc j) h = at_apart f xs i j (λ e. h (ap (λ n. suc n) e))

length_at : (f : Shape → Shape) (xs : List Shape) (i : ℕ) → length (change_at f xs i) ≡ length xs
length_at f [] i = refl
length_at f (x ∷ xs) zero = refl
length_at f (x ∷ xs) (suc i) = ap (λ n. suc n) (length_at f xs i)

pub length_shapes : (f : Shape → Shape) (xs : List Shape) (n : ℕ) → length (change_shape f xs n) ≡ length xs
length_shapes f xs zero = refl
length_shapes f xs (suc i) = length_at f xs i

at_none : (f : Shape → Shape) (xs : List Shape) (i : ℕ) → slice_get xs i ≡ None → change_at f xs i ≡ xs
at_none f [] i h = refl
at_none f (x ∷ xs) zero h = cc
at_none f (x ∷ xs) (suc i) h = ap (λ ys. x ∷ ys) (at_none f xs i h)

-- where no shape is, none changes
pub shape_none : (f : Shape → Shape) (xs : List Shape) (n : ℕ) → shape_at xs n ≡ None → change_shape f xs n ≡ xs
shape_none f xs zero h = refl
shape_none f xs (suc i) h = at_none f xs i h

-- two numbers are one or are not
pub same_or_not : (n m : ℕ) {P : Type 0} → (n ≡ m → P) → ((n ≡ m → ⊥) → P) → P
same_or_not n m {P} same other = pick (n == m) refl
  where
    pick : (b : Bool) → (n == m) ≡ b → P
    pick true e = same ((Decides-eqb n m).0 e)
    pick false e = other (λ h. let t : (n == m) ≡ true = (Decides-eqb n m).1 h in cc)
