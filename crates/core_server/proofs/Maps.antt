-- What is kept for numbers, where one is put there or taken away.
use Rattle.std.proofs.Common.{◌≡◌, ℕ, Bool, true, false, ◌==◌, refl, ap, sym, ◌∙◌, None, Some}
use Rattle.std.specs.Prelude.{cond}
use Rattle.std.specs.Ordering.{nat_cmp, eq_by_cmp}
use Rattle.std.specs.Cmp.{nat_cmp_total, unsigned_tied}
use Rattle.std.specs.FinMap as fin
use Rattle.std.specs.FinMap.{FinMap}
use Rattle.std.proofs.lemmas.Bool.Decides.{Decides-eqb}

apart : (n m : ℕ) (b : Bool) → (n == m) ≡ b → (m ≡ n → ⊥) → b ≡ false
apart n m true e h = absurd (h (sym ((Decides-eqb n m).0 e)))
apart n m false e h = refl

apart_numbers : (n m : ℕ) → (n ≡ m → ⊥) → eq_by_cmp nat_cmp m n ≡ false
apart_numbers n m h = unsigned_tied m n ∙ apart m n (m == n) refl h

same_number : (n : ℕ) → eq_by_cmp nat_cmp n n ≡ true
same_number n = unsigned_tied n n ∙ (Decides-eqb n n).1 refl

pub removed_apart : {K : Type 0} (m : FinMap nat_cmp K) (n q : ℕ) → (n ≡ q → ⊥) → fin.get (fin.remove m n) q ≡ fin.get m q
removed_apart m n q h = fin.get-remove nat_cmp_total m n q ∙ ap (λ b. cond b None (fin.get m q)) (apart_numbers n q h)

pub inserted_apart : {K : Type 0} (m : FinMap nat_cmp K) (n : ℕ) (k : K) (q : ℕ) → (n ≡ q → ⊥) → fin.get (fin.insert m n k) q ≡ fin.get m q
inserted_apart m n k q h = fin.get-insert nat_cmp_total m n k q ∙ ap (λ b. cond b (Some k) (fin.get m q)) (apart_numbers n q h)

pub inserted_here : {K : Type 0} (m : FinMap nat_cmp K) (n : ℕ) (k : K) → fin.get (fin.insert m n k) n ≡ Some k
inserted_here m n k = fin.get-insert nat_cmp_total m n k n ∙ ap (λ b. cond b (Some k) (fin.get m n)) (same_number n)
