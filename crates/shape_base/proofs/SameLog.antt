-- The log past a step, and the log from the first commit on that a snapshot does not show.
use Rattle.std.proofs.Common.{◌≡◌, ℕ, zero, suc, ◌+◌, ◌-◌, ◌<◌, ◌≤◌, Bool, true, false, List, [], ◌∷◌, ◌++◌, length, take, drop, refl, sym, ◌∙◌, ap, subst, arith, Option, None, Some, IfSome}
use Rattle.std.specs.Prelude.{nat_le}
use Rattle.std.specs.Bool.{if◌then◌else◌}
use Rattle.std.specs.List.{list_any, flat_map, slice_get}
use Rattle.std.proofs.lemmas.Bool.Decides.{nat_tests}
use Rattle.shape_base.specs.declared.entry.Entry.{Entry}
use Rattle.shape_base.specs.declared.change.Tx.{Tx}
use Rattle.shape_base.specs.declared.history.Step.{Step}
use Rattle.shape_base.specs.declared.history.Step.TheVariants.{Commit, Define}
use Rattle.shape_base.specs.declared.history.History.{History}
use Rattle.shape_base.specs.Tables.{changes_of, commits_of}
use Rattle.shape_base.specs.Visibility.{Visibility, is_visible}
use Rattle.shape_base.specs.Snapshot.{IsShownRightly, commit_at, count_at, shows_last, is_tx_visible}
use Rattle.shape_base.specs.Shape.{Knows, stops, emit, shown}
use Rattle.shape_base.specs.Log.{later, entries_past, unseen, start_from, step_of}
use Rattle.shape_base.specs.Laws.{SameLog}

-- only commits add entries
of_commits : (s : Knows) (ss : List Step) → later s ss ≡ entries_past s (commits_of ss)
of_commits s [] = refl
of_commits s (Commit tx ∷ ss) = ap (λ (es : List Entry). if list_any (stops s) (changes_of s.definition.table tx) then [] else flat_map (emit s tx.lsn) (changes_of s.definition.table tx) ++ es) (of_commits s ss)
of_commits s (Define d rows ∷ ss) = of_commits s ss

nothing_taken : (n : ℕ) → take {A = Tx} n [] ≡ []
nothing_taken zero = refl
nothing_taken (suc n) = refl

nothing_left : (n : ℕ) → drop {A = Tx} n [] ≡ []
nothing_left zero = refl
nothing_left (suc n) = refl

no_steps : (n : ℕ) → take {A = Step} n [] ≡ []
no_steps zero = refl
no_steps (suc n) = refl

commits_up_to : (ss : List Step) (n : ℕ) → commits_of (take (step_of ss n) ss) ≡ take n (commits_of ss)
commits_up_to ss zero = refl
commits_up_to [] (suc n) = refl
commits_up_to (Commit tx ∷ ss) (suc n) = let e : step_of ss n + 1 ≡ suc (step_of ss n) = omega arith in rw e (ap (λ txs. tx ∷ txs) (commits_up_to ss n))
commits_up_to (Define d rows ∷ ss) (suc n) = let e : step_of ss (suc n) + 1 ≡ suc (step_of ss (suc n)) = omega arith in rw e (commits_up_to ss (suc n))

-- the commits past step k up to commit n
commits_past : (ss : List Step) (k n : ℕ) → commits_of (drop k (take (step_of ss n) ss)) ≡ drop (length (commits_of (take k ss))) (take n (commits_of ss))
commits_past ss zero n = commits_up_to ss n
commits_past ss (suc k) zero = sym (nothing_left (length (commits_of (take (suc k) ss))))
commits_past [] (suc k) (suc n) = refl
commits_past (Commit tx ∷ ss) (suc k) (suc n) =
    let e : step_of ss n + 1 ≡ suc (step_of ss n) = omega arith in rw e (commits_past ss k n)
commits_past (Define d rows ∷ ss) (suc k) (suc n) =
    let e : step_of ss (suc n) + 1 ≡ suc (step_of ss (suc n)) = omega arith in rw e (commits_past ss k (suc n))

-- of these commits the first m are visible, and the next one, where there is one, is not
abbrev AreFirstVisible : Visibility → List Tx → ℕ → Type 0
AreFirstVisible v txs m = (i : ℕ) → i ≤ m → IfSome (slice_get txs i) (λ (tx : Tx). is_visible v tx.xid ≡ nat_le (suc i) m)

unseen_if : (b : Bool) (v : Visibility) (tx : Tx) (txs rest : List Tx) → (b ≡ true → unseen v txs ≡ rest) → b ≡ true → (if b then unseen v txs else tx ∷ txs) ≡ rest
unseen_if true v tx txs rest h e = h e
unseen_if false v tx txs rest h e = cc

unseen_none : (b : Bool) (v : Visibility) (tx : Tx) (txs : List Tx) → b ≡ false → (if b then unseen v txs else tx ∷ txs) ≡ tx ∷ txs
unseen_none true v tx txs e = cc
unseen_none false v tx txs e = refl

later_visible : (v : Visibility) (tx : Tx) (txs : List Tx) (m i : ℕ) → AreFirstVisible v (tx ∷ txs) (suc m) → (o : Option Tx) → IfSome o (λ (x : Tx). is_visible v x.xid ≡ nat_le (suc (suc i)) (suc m)) → IfSome o (λ (x : Tx). is_visible v x.xid ≡ nat_le (suc i) m)
later_visible v tx txs m i h None is = tt
later_visible v tx txs m i h (Some x) is = let e : nat_le (suc (suc i)) (suc m) ≡ nat_le (suc i) m = grind (arith, nat_tests) in is ∙ e

pub first_unseen : (v : Visibility) (txs : List Tx) (m p : ℕ) → AreFirstVisible v txs m → unseen v (take p txs) ≡ drop m (take p txs)
first_unseen v txs m zero h = sym (nothing_left m)
first_unseen v [] m (suc p) h = sym (nothing_left m)
first_unseen v (tx ∷ txs) zero (suc p) h = unseen_none (is_visible v tx.xid) v tx (take p txs) (h 0 (omega arith))
first_unseen v (tx ∷ txs) (suc m) (suc p) h =
    let e : nat_le 1 (suc m) ≡ true = grind (arith, nat_tests) in
    unseen_if (is_visible v tx.xid) v tx (take p txs) _ (λ _. first_unseen v txs m p (λ i le. later_visible v tx txs m i h (slice_get txs i) (h (suc i) (omega (arith, le))))) (h 0 (omega arith) ∙ e)

slice_past : (txs : List Tx) (q i : ℕ) → slice_get (drop q txs) i ≡ slice_get txs (q + i)
slice_past txs zero i = let e : 0 + i ≡ i = omega arith in rw e refl
slice_past [] (suc q) i = refl
slice_past (tx ∷ txs) (suc q) i = let e : suc q + i ≡ suc (q + i) = omega arith in rw e (slice_past txs q i)

cut_both : (txs : List Tx) (q n : ℕ) → drop q (take n txs) ≡ take (n - q) (drop q txs)
cut_both txs zero n = let e : n - 0 ≡ n = omega arith in rw e refl
cut_both txs (suc q) zero = let e : 0 - suc q ≡ 0 = omega arith in rw e refl
cut_both [] (suc q) (suc n) = sym (nothing_taken (suc n - suc q))
cut_both (tx ∷ txs) (suc q) (suc n) = let e : suc n - suc q ≡ n - q = omega arith in rw e (cut_both txs q n)

drop_both : (txs : List Tx) (q m : ℕ) → drop m (drop q txs) ≡ drop (q + m) txs
drop_both txs zero m = let e : 0 + m ≡ m = omega arith in rw e refl
drop_both [] (suc q) m = nothing_left m ∙ sym (nothing_left (suc q + m))
drop_both (tx ∷ txs) (suc q) m = let e : suc q + m ≡ suc (q + m) = omega arith in rw e (drop_both txs q m)

stands : (h : History) (v : Visibility) (k q : ℕ) (o : Option Tx) → IfSome o (λ (tx : Tx). is_visible v tx.xid ≡ nat_le (suc q) (count_at h k)) → is_tx_visible v o ≡ true → suc q ≤ count_at h k
stands h v k q None is seen = cc
stands h v k q (Some tx) is seen = let e : nat_le (suc q) (count_at h k) ≡ true = sym is ∙ seen in grind (arith, nat_tests)

-- where the last commit taken before is shown, it stands in the first k steps
shown_stands : (h : History) (v : Visibility) (k q : ℕ) → (0 < q → IsShownRightly h v k q) → shows_last h v q ≡ true → q ≤ count_at h k
shown_stands h v k zero last seen = omega arith
shown_stands h v k (suc q) last seen = stands h v k q (commit_at h (suc q)) (last (omega arith)) seen

first_at : (h : History) (v : Visibility) (k q i : ℕ) → q ≤ count_at h k → i ≤ count_at h k - q → IsShownRightly h v k (q + suc i) → IfSome (slice_get (drop q (commits_of h.steps)) i) (λ (tx : Tx). is_visible v tx.xid ≡ nat_le (suc i) (count_at h k - q))
first_at h v k q i le less rightly =
    let place : q + suc i ≡ suc (q + i) = omega arith in
    let test : nat_le (suc (q + i)) (count_at h k) ≡ nat_le (suc i) (count_at h k - q) = grind (arith, nat_tests) in
    let there : IfSome (slice_get (commits_of h.steps) (q + i)) (λ (tx : Tx). is_visible v tx.xid ≡ nat_le (suc (q + i)) (count_at h k)) = subst (λ m. IsShownRightly h v k m) place rightly in
    subst (λ b. IfSome (slice_get (drop q (commits_of h.steps)) i) (λ (tx : Tx). is_visible v tx.xid ≡ b)) test
    (subst (λ o. IfSome o (λ (tx : Tx). is_visible v tx.xid ≡ nat_le (suc (q + i)) (count_at h k))) (sym (slice_past (commits_of h.steps) q i)) there)

pub same_log : SameLog
same_log h s snapshot k q n honest seen =
    let c = count_at h k in
    let txs = commits_of h.steps in
    let v = snapshot.visibility in
    let le : q ≤ count_at h k = shown_stands h snapshot.visibility k q honest.last seen in
    let all : q + (count_at h k - q) ≡ count_at h k = omega arith in
    let firsts : AreFirstVisible snapshot.visibility (drop q (commits_of h.steps)) (count_at h k - q) = λ i less. first_at h v k q i le less (honest.later le (q + suc i) (omega arith) (omega (arith, less))) in
    let cut : unseen v (drop q (take n txs)) ≡ drop (count_at h k) (take n txs) =
    ap (unseen v) (cut_both txs q n) ∙ first_unseen v (drop q txs) (c - q) (n - q) firsts ∙ ap (drop (c - q)) (sym (cut_both txs q n)) ∙ drop_both (take n txs) q (c - q) ∙ ap (λ m. drop m (take n txs)) all in
    ap (λ es. start_from 1 (shown s snapshot.rows) ++ es) (of_commits s (drop k (take (step_of h.steps n) h.steps)) ∙ ap (entries_past s) (commits_past h.steps k n ∙ sym cut))
