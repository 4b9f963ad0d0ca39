-- A search among the listed ids finds what is listed.
use Rattle.std.proofs.Common.{◌≡◌, ℕ, zero, suc, ◌+◌, ◌≤◌, ◌<◌, Bool, true, false, ◌&&◌, ◌==◌, leb, ltb, List, [], ◌∷◌, length, Result, Ok, Err, refl, sym, leb-true, ltb-true, ltb-false, arith}
use Rattle.std.specs.List.{list_any}
use Rattle.std.specs.Result.{MatchResult, is_ok}
use Rattle.std.specs.Ordering.{nat_cmp}
use Rattle.std.specs.List.Sorted.{IsBinarySearchResult}
use Rattle.std.proofs.Math.ListN.{get_or}
use Rattle.std.proofs.lemmas.List.Sorted.{searched}
use Rattle.std.proofs.lemmas.List.Folds.{list_any_at, list_any_none}
use Rattle.std.proofs.lemmas.List.Elements.{All-from_get_or}
use Rattle.std.proofs.lemmas.Bool.Decides.{nat_tests}
use Rattle.shape_base.specs.Visibility.{rise_between}

head_from : (low high n : ℕ) (b : Bool) (p : Bool) → leb low n ≡ p → p && b ≡ true → low ≤ n
head_from low high n b true e h = leb-true low n e
head_from low high n b false e h = cc

rest_rises : (p q b : Bool) → p && (q && b) ≡ true → b ≡ true
rest_rises true true b h = h
rest_rises true false b h = cc
rest_rises false q b h = cc

module _ (high : ℕ) where
  tail_rises : (low n : ℕ) (ns : List ℕ) → rise_between low high (n ∷ ns) ≡ true → rise_between (n + 1) high ns ≡ true
  tail_rises low n ns h = rest_rises (leb low n) (ltb n high) (rise_between (n + 1) high ns) h

  head_low : (low n : ℕ) (ns : List ℕ) → rise_between low high (n ∷ ns) ≡ true → low ≤ n
  head_low low n ns h = head_from low high n (ltb n high && rise_between (n + 1) high ns) (leb low n) refl h

  all_above : (low : ℕ) (ns : List ℕ) (i : ℕ) → rise_between low high ns ≡ true → i < length ns → low ≤ get_or ns i 0
  all_above low [] i h lt = absurd (omega (arith, lt))
  all_above low (n ∷ ns) zero h lt = head_low low n ns h
  all_above low (n ∷ ns) (suc i) h lt = let from : low ≤ n = head_low low n ns h in
      let rest : n + 1 ≤ get_or ns i 0 = all_above (n + 1) ns i (tail_rises low n ns h) (omega (arith, lt)) in omega (arith, from, rest)

  rising : (low : ℕ) (ns : List ℕ) → rise_between low high ns ≡ true → (i j : ℕ) → i ≤ j → j < length ns → get_or ns i 0 ≤ get_or ns j 0
  rising low [] h i j le lt = absurd (omega (arith, lt))
  rising low (n ∷ ns) h zero zero le lt = omega arith
  rising low (n ∷ ns) h zero (suc j) le lt = let rest : n + 1 ≤ get_or ns j 0 = all_above (n + 1) ns j (tail_rises low n ns h) (omega (arith, lt)) in omega (arith, rest)
  rising low (n ∷ ns) h (suc i) zero le lt = absurd (omega (arith, le))
  rising low (n ∷ ns) h (suc i) (suc j) le lt = rising (n + 1) ns (tail_rises low n ns h) i j (omega (arith, le)) (omega (arith, lt))

apart_below : (x y : ℕ) → y < x → (x == y) ≡ false
apart_below x y h = grind (arith, nat_tests)

apart_above : (x y : ℕ) → x < y → (x == y) ≡ false
apart_above x y h = grind (arith, nat_tests)

itself : (x y : ℕ) → y ≡ x → (x == y) ≡ true
itself x y h = grind (arith, nat_tests)

apart_at : (xs : List ℕ) (x i k : ℕ) (b : Bool) → ltb k i ≡ b → ((j : ℕ) → j < i → get_or xs j 0 < x) → ((j : ℕ) → i ≤ j → j < length xs → x < get_or xs j 0) → k < length xs → (x == get_or xs k 0) ≡ false
apart_at xs x i k true e below above lt = apart_below x (get_or xs k 0) (below k (ltb-true k i e))
apart_at xs x i k false e below above lt = apart_above x (get_or xs k 0) (above k (ltb-false k i e) lt)

-- a search finds exactly what a look at each finds
found_is : (xs : List ℕ) (x : ℕ) (r : Result ℕ ℕ)
    → MatchResult r (λ i. (i < length xs) × (get_or xs i 0 ≡ x)) (λ i. (i ≤ length xs) × ((k : ℕ) → k < i → get_or xs k 0 < x) × ((k : ℕ) → i ≤ k → k < length xs → x < get_or xs k 0))
    → is_ok r ≡ list_any (λ l. x == l) xs
found_is xs x (Ok i) h = sym (list_any_at (λ l. x == l) xs i 0 h.0 (itself x (get_or xs i 0) h.1))
found_is xs x (Err i) h = sym (list_any_none (λ l. x == l) xs (All-from_get_or (λ l. (x == l) ≡ false) xs 0 (λ k lt. apart_at xs x i k (ltb k i) refl h.1 h.2 lt)))

pub listed_is : (low high : ℕ) (ns : List ℕ) (x : ℕ) (r : Result ℕ ℕ) → rise_between low high ns ≡ true → IsBinarySearchResult (λ y. nat_cmp y x) ns r → is_ok r ≡ list_any (λ l. x == l) ns
listed_is low high ns x r rise found = found_is ns x r (searched ns x r found (rising high low ns rise))
