-- Numbers that are read rise, between their bounds.
use Rattle.std.proofs.Common.{◌≡◌, ℕ, zero, suc, ◌+◌, ◌-◌, ◌≤◌, ◌<◌, Bool, true, false, cond, ◌&&◌, leb, eqb, List, [], ◌∷◌, length, Result, Ok, Err, IfOk, refl, subst, leb-true, le-leb, lt-ltb, arith}
use Rattle.std.proofs.lemmas.Result.{IfOk-at_ok}
use Rattle.shape_base.specs.Visibility.{IsVisibility, rise_between}
use Rattle.snapshot_merge.specs.VisText.{Read, ◌>>=◌, decimal_at, if_within, number_at, one_more, after_number, numbers_within, listed_at}

abbrev IsWithin : ℕ → ℕ → Read ℕ → Type 0
IsWithin low high r = IfOk r (λ x. (low ≤ x.0) × (x.0 ≤ high))

tested : (low high left : ℕ) (x : ℕ × List ℕ) (p q : Bool) → leb low x.0 ≡ p → leb x.0 high ≡ q → IsWithin low high (cond (p && q) (Ok x) (Err left))
tested low high left x true true e f = (leb-true low x.0 e, leb-true x.0 high f)
tested low high left x true false e f = tt
tested low high left x false q e f = tt

within : (low high left : ℕ) (r : Read ℕ) → IsWithin low high (r >>= if_within low high left)
within low high left (Err l) = tt
within low high left (Ok x) = tested low high left x (leb low x.0) (leb x.0 high) refl refl

number_within : (low high : ℕ) (bytes : List ℕ) → IsWithin low high (number_at low high bytes)
number_within low high bytes = within low high (length bytes) (decimal_at bytes)

abbrev Rise : ℕ → ℕ → Result (List ℕ) ℕ → Type 0
Rise low high r = IfOk r (λ ns. rise_between low (high + 1) ns ≡ true)

first_rises : (low high n : ℕ) (ns : List ℕ) → low ≤ n → n ≤ high → rise_between (n + 1) (high + 1) ns ≡ true → rise_between low (high + 1) (n ∷ ns) ≡ true
first_rises low high n ns ge le h =
    let lt : n < high + 1 = omega (arith, le) in
    rw (le-leb low n ge, lt-ltb n (high + 1) lt, h) refl

comma_rises : (low high n left : ℕ) (b : Bool) (r : Result (List ℕ) ℕ) → low ≤ n → n ≤ high → Rise (n + 1) high r → Rise low high (cond b (one_more n r) (Err left))
comma_rises low high n left false r ge le h = tt
comma_rises low high n left true (Err l) ge le h = tt
comma_rises low high n left true (Ok ns) ge le h = first_rises low high n ns ge le h

after_rises : (most high low : ℕ) (r : Read ℕ) → IsWithin low high r → ((next : ℕ) (bytes : List ℕ) → Rise next high (numbers_within most high next bytes)) → Rise low high (r >>= after_number (numbers_within most high))
after_rises most high low (Err left) w later = tt
after_rises most high low (Ok (n, [])) w later = first_rises low high n [] w.0 w.1 refl
after_rises most high low (Ok (n, b ∷ bytes)) w later = comma_rises low high n (suc (length bytes)) (eqb b 44) (numbers_within most high (n + 1) bytes) w.0 w.1 (later (n + 1) bytes)

numbers_rise : (most high low : ℕ) (bytes : List ℕ) → Rise low high (numbers_within most high low bytes)
unfolding numbers_within
numbers_rise zero high low bytes = tt
numbers_rise (suc most) high low bytes = after_rises most high low (number_at low high bytes) (number_within low high bytes) (numbers_rise most high)

listed_rise : (low high : ℕ) (bytes : List ℕ) → Rise low high (listed_at low high bytes)
listed_rise low high [] = refl
listed_rise low high (b ∷ bytes) = numbers_rise (length (b ∷ bytes)) high low (b ∷ bytes)

pub parts_ordered : (xmin xmax : ℕ) (listed bytes : List ℕ) → 1 ≤ xmin → xmin ≤ xmax → listed_at xmin (xmax - 1) bytes ≡ Ok listed → IsVisibility (record { xmin = xmin; xmax = xmax; listed = listed })
parts_ordered xmin xmax listed bytes first order e =
    let back : xmax - 1 + 1 ≡ xmax = omega (arith, first, order) in
    record { first = first; order = order; listed = subst (λ (high : ℕ). rise_between xmin high listed ≡ true) back (IfOk-at_ok (λ ns. rise_between xmin (xmax - 1 + 1) ns ≡ true) e (listed_rise xmin (xmax - 1) bytes)) }
