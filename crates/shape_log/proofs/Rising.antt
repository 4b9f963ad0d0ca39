-- Offsets that rise, their end, and where one stands among them.
use Rattle.std.proofs.Common.{◌≡◌, ℕ, zero, suc, ◌-◌, ◌<◌, ◌≤◌, Bool, true, false, List, [], ◌∷◌, ◌++◌, length, get_or, refl, sym, ap, subst, ◌∙◌, arith, Some}
use Rattle.std.specs.Prelude.{not, slice_get}
use Rattle.std.specs.Bool.{if◌then◌else◌}
use Rattle.std.specs.List.{AllWithin}
use Rattle.std.specs.List.Sorted.{IsPartitionedBy}
use Rattle.std.proofs.lemmas.Bool.{and_parts, and_from, false_from_ne_true}
use Rattle.shape_base.specs.declared.offset.Offset.{Offset}
use Rattle.shape_base.specs.Offsets.{is_before}
use Rattle.shape_base.proofs.Lemmas.{before_trans}
use Rattle.shape_log.specs.Texts.{rise_after, last_from, count_upto}

pub last_is : (o : Offset) (xs : List Offset) (x : Offset) → slice_get xs (length xs - 1) ≡ Some x → x ≡ last_from o xs
last_is o [] x h = cc
last_is o (y ∷ []) x h = cc
last_is o (y ∷ z ∷ xs) x h =
    let next : length (y ∷ z ∷ xs) - 1 ≡ suc (length (z ∷ xs) - 1) = omega arith in
    last_is y (z ∷ xs) x (subst (λ (n : ℕ). slice_get (y ∷ z ∷ xs) n ≡ Some x) next h)

pub rise_more : (o : Offset) (xs : List Offset) (x : Offset) → rise_after o xs ≡ true → is_before (last_from o xs) x ≡ true → rise_after o (xs ++ x ∷ []) ≡ true
rise_more o [] x h k = and_from _ _ k refl
rise_more o (y ∷ xs) x h k = let p = and_parts (is_before o y) _ h in and_from _ _ p.0 (rise_more y xs x p.1 k)

-- ---- the search

abbrev pub is_upto : Offset → Offset → Bool
is_upto o x = not (is_before o x)

above : (o : Offset) (xs : List Offset) → rise_after o xs ≡ true → (j : ℕ) (d : Offset) → j < length xs → is_before o (get_or xs j d) ≡ true
above o [] h j d lt = absurd (omega (arith, lt))
above o (x ∷ xs) h zero d lt = (and_parts (is_before o x) _ h).0
above o (x ∷ xs) h (suc j) d lt = let p = and_parts (is_before o x) _ h in before_trans o x _ p.0 (above x xs p.1 j d (omega (arith, lt)))

not_true : (b : Bool) → not b ≡ true → b ≡ false
not_true true h = cc
not_true false h = refl

not_false : (b : Bool) → not b ≡ false → b ≡ true
not_false true h = refl
not_false false h = cc

before_later : (o a b : Offset) → is_before a b ≡ true → not (is_before o b) ≡ true → not (is_before o a) ≡ true
before_later o a b h k = ap not (false_from_ne_true (is_before o a) (λ t. let u = before_trans o a b t h in let v = not_true _ k in cc))

pub partitioned : (o from : Offset) (xs : List Offset) → rise_after from xs ≡ true → IsPartitionedBy (is_upto o) xs
partitioned o from [] h i j d le lt k = absurd (omega (arith, lt))
partitioned o from (x ∷ xs) h zero zero d le lt k = k
partitioned o from (x ∷ xs) h (suc i) zero d le lt k = absurd (omega (arith, le))
partitioned o from (x ∷ xs) h zero (suc j) d le lt k = before_later o x (get_or xs j d) (above x xs (and_parts (is_before from x) _ h).1 j d (omega (arith, lt))) k
partitioned o from (x ∷ xs) h (suc i) (suc j) d le lt k = partitioned o x xs (and_parts (is_before from x) _ h).1 i j d (omega (arith, le)) (omega (arith, lt)) k

if_true : (b : Bool) (m n : ℕ) → b ≡ true → (if b then m else n) ≡ m
if_true true m n e = refl
if_true false m n e = cc

if_false : (b : Bool) (m n : ℕ) → b ≡ false → (if b then m else n) ≡ n
if_false true m n e = cc
if_false false m n e = refl

pub counted : (o : Offset) (xs : List Offset) (n : ℕ) → n ≤ length xs → AllWithin (λ x. is_upto o x ≡ true) xs 0 n → AllWithin (λ x. is_upto o x ≡ false) xs n (length xs) → n ≡ count_upto o xs
counted o [] zero le low high = refl
counted o [] (suc n) le low high = absurd (omega (arith, le))
counted o (x ∷ xs) zero le low high = sym (if_true (is_before o x) 0 (suc (count_upto o xs)) (not_false _ (high 0 x (omega arith) (omega arith))))
counted o (x ∷ xs) (suc n) le low high =
    ap suc (counted o xs n (omega (arith, le)) (λ k d lo hi. low (suc k) d (omega (arith, lo)) (omega (arith, hi))) (λ k d lo hi. high (suc k) d (omega (arith, lo)) (omega (arith, hi))))
    ∙ sym (if_false (is_before o x) 0 (suc (count_upto o xs)) (not_true _ (low 0 x (omega arith) (omega arith))))
