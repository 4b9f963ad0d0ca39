-- Rows that are taken out of a copy, one by one.
use Rattle.std.proofs.Common.{◌≡◌, ℕ, suc, ◌+◌, ◌<◌, ◌++◌, ◌∷◌, [], Bool, true, false, cond, length, take, drop, get_or, refl, sym, ◌∙◌, ap, subst, arith, ◌||◌}
use Rattle.std.specs.List.{list_any, sum_by, remove}
use Rattle.std.specs.List.Sorted.{IsPermutation}
use Rattle.std.proofs.Math.Seq.{split_at}
use Rattle.std.proofs.lemmas.List.{append-nil, length-append, take_all, take_more}
use Rattle.std.proofs.lemmas.List.Sums.{sum_by-append}
use Rattle.std.proofs.lemmas.List.Sorted.{IsPermutation-trans, IsPermutation-sym, IsPermutation-more, sum_by-IsPermutation, length_permutation}
use Rattle.shape_base.specs.Tables.{Values, Table, same_row}
use Rattle.shape_base.proofs.Lemmas.{Decides-same_row}

-- one for a row that is equal to this one
abbrev counts : Values → Values → ℕ
counts row x = cond (same_row row x) 1 0

none_counts : (row x : Values) (rows : Table) (b : Bool) → same_row row x ≡ b → (b || list_any (same_row row) rows) ≡ false → (list_any (same_row row) rows ≡ false → sum_by (counts row) rows ≡ 0) → sum_by (counts row) (x ∷ rows) ≡ 0
none_counts row x rows true e h next = cc
none_counts row x rows false e h next = rw e (next h)

count_none : (row : Values) (rows : Table) → list_any (same_row row) rows ≡ false → sum_by (counts row) rows ≡ 0
count_none row [] h = refl
count_none row (x ∷ rows) h = none_counts row x rows (same_row row x) refl h (count_none row rows)

count_it : (row : Values) (rows : Table) → sum_by (counts row) (row ∷ rows) ≡ 1 + sum_by (counts row) rows
count_it row rows = let one : sum_by (counts row) (row ∷ []) ≡ 1 = rw ((Decides-same_row row row).1 refl) refl in sum_by-append (counts row) (row ∷ []) rows ∙ ap (λ (n : ℕ). n + sum_by (counts row) rows) one

-- a row that is not left is one too many
pub not_permuted : (rows others left : Table) (i : ℕ) (x : Values) → i < length rows → x ≡ get_or rows i x → list_any (same_row x) left ≡ false → IsPermutation others (take i rows ++ left) → IsPermutation rows others → ⊥
not_permuted rows others left i x lt is none p q =
    let f : Values → ℕ = counts x in
    let same : sum_by f (take i rows ++ left) ≡ sum_by f rows = sum_by-IsPermutation f rows (take i rows ++ left) (IsPermutation-trans rows others (take i rows ++ left) q p) in
    let front = sum_by-append f (take i rows) left in
    let cut : rows ≡ take i rows ++ x ∷ drop (suc i) rows = split_at rows i x lt ∙ ap (λ (y : Values). take i rows ++ y ∷ drop (suc i) rows) (sym is) in
    let whole : sum_by f rows ≡ sum_by f (take i rows) + sum_by f (x ∷ drop (suc i) rows) = ap (sum_by f) cut ∙ sum_by-append f (take i rows) (x ∷ drop (suc i) rows) in
    absurd (omega (arith, same, front, whole, count_none x left none, count_it x (drop (suc i) rows)))

pub all_taken : (rows others left : Table) (n : ℕ) → n ≡ length rows → length left ≡ 0 → IsPermutation others (take n rows ++ left) → IsPermutation rows others
all_taken rows others [] n e z p = IsPermutation-sym others rows (subst (λ (xs : Table). IsPermutation others xs) (append-nil (take n rows) ∙ ap (λ (m : ℕ). take m rows) e ∙ take_all (length rows) rows (omega arith)) p)
all_taken rows others (x ∷ left) n e z p = absurd (omega (arith, z))

pub some_left : (rows others left : Table) (n : ℕ) → n ≡ length rows → 0 < length left → IsPermutation others (take n rows ++ left) → IsPermutation rows others → ⊥
some_left rows others left n e lt p q =
    let whole : take n rows ≡ rows = ap (λ (m : ℕ). take m rows) e ∙ take_all (length rows) rows (omega arith) in
    let a = length_permutation _ _ p in let b = length_permutation _ _ q in
    absurd (omega (arith, a, b, length-append (take n rows) left, ap length whole, lt))

-- the row in a place is the one that was looked for
pub found_at : (row x : Values) (rows : Table) (i : ℕ) → x ≡ get_or rows i x → same_row row x ≡ true → row ≡ get_or rows i row
found_at row x rows i is same = let e : row ≡ x = (Decides-same_row row x).0 same in subst (λ (y : Values). y ≡ get_or rows i y) (sym e) is

-- one more row is taken out of what is left
pub push_taken : (rows others left : Table) (i p : ℕ) (x : Values) → i < length rows → x ≡ get_or rows i x → p < length left → x ≡ get_or left p x → IsPermutation others (take i rows ++ left) → IsPermutation others (take (i + 1) rows ++ remove left p)
push_taken rows others left i p x lt is within there before =
    subst (λ (front : Table). IsPermutation others (front ++ remove left p)) (sym (take_more rows i x lt ∙ ap (λ (y : Values). take i rows ++ y ∷ []) (sym is))) (IsPermutation-more others (take i rows) left p x within there before)
