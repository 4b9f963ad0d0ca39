-- Which transactions are visible, place by place.
use Rattle.std.proofs.Common.{◌≡◌, ℕ, zero, suc, ◌+◌, ◌<◌, ◌≤◌, ◌++◌, ◌∷◌, [], true, false, List, length, map, take, get_or, refl, sym, ◌∙◌, ap, subst, arith, Option, None, Some, IfSome, ◌⊎◌, ⊎_elim}
use Rattle.std.specs.Prelude.{nat_le, slice_get, slice_index_or}
use Rattle.std.proofs.lemmas.Bool.{cases_lt, lt-ltb, le-ltb}
use Rattle.std.proofs.Math.Nat.{eq-or-lt_of_le}
use Rattle.std.proofs.lemmas.List.{take_more, length-append}
use Rattle.shape_base.specs.declared.change.Tx.{Tx}
use Rattle.shape_base.specs.declared.history.Step.{Step}
use Rattle.shape_base.specs.declared.history.Step.TheVariants.{Commit, Define}
use Rattle.shape_base.specs.declared.history.History.{History}
use Rattle.shape_base.specs.declared.definition.TableDef.{TableDef}
use Rattle.shape_base.specs.Tables.{commits_of, def_after, same_def}
use Rattle.shape_base.proofs.Lemmas.{Decides-same_def}
use Rattle.shape_base.specs.Snapshot.{IsShownRightly, count_at}
use Rattle.shape_base.specs.Visibility.{Visibility, is_visible}
use Rattle.script_check.specs.declared.snapshot.Snapshot as raw
use Rattle.script_check.specs.declared.honesty.SnapshotError.TheVariants as errors
use Rattle.script_check.specs.declared.honesty.SnapshotError.{SnapshotError}
use Rattle.script_check.specs.Honest.{xids_of, shows, IsPrefixShown, IsOutOfTurn, IsHonestAt, IsDefinedAt}
use Rattle.script_check.specs.Causes.{IsDishonest}
use Rattle.script_check.specs.Laws.{HonestIsHonest, DishonestIsRefused}

-- what holds from one place up to another, and there, holds up to the next
pub up_to : {P : ℕ → Type 0} (low n : ℕ) → ((i : ℕ) → low ≤ i → i < n → P i) → P n → (i : ℕ) → low ≤ i → i < n + 1 → P i
up_to {P} low n before here i le lt =
    let cases : (i ≡ n) ⊎ (i < n) = eq-or-lt_of_le (omega (arith, lt)) in
    ⊎_elim (λ (e : i ≡ n). subst P (sym e) here) (λ (less : i < n). before i le less) cases

commits_more : (ss : List Step) (s : Step) → commits_of (ss ++ s ∷ []) ≡ commits_of ss ++ commits_of (s ∷ [])
commits_more [] s = refl
commits_more (Commit tx ∷ ss) s = ap (λ (txs : List Tx). tx ∷ txs) (commits_more ss s)
commits_more (Define d rows ∷ ss) s = commits_more ss s

pub count_passed : (ss : List Step) (i : ℕ) (x : Step) → i < length ss → x ≡ get_or ss i x → length (commits_of (take (i + 1) ss)) ≡ length (commits_of (take i ss)) + length (commits_of (x ∷ []))
count_passed ss i x lt is = ap (λ ds. length (commits_of ds)) (take_more ss i x lt ∙ ap (λ (y : Step). take i ss ++ y ∷ []) (sym is)) ∙ ap length (commits_more (take i ss) x) ∙ length-append (commits_of (take i ss)) (commits_of (x ∷ []))

-- one list of transactions has one count
same_count : (v : Visibility) (xids : List ℕ) (c d : ℕ) → IsPrefixShown v xids c → IsPrefixShown v xids d → c < d → ⊥
same_count v xids c d p q lt = let yes : shows v xids c ≡ true = q.shown c lt in let no : shows v xids c ≡ false = p.others c (omega arith) (omega (arith, lt, q.bound)) in cc

one_count : (v : Visibility) (xids : List ℕ) (c d : ℕ) → IsPrefixShown v xids c → IsPrefixShown v xids d → c ≡ d
one_count v xids c d p q =
    let either : (c < d) ⊎ (d ≤ c) = cases_lt c d in
    let later : d ≤ c → c ≡ d = λ le. let cases : (d ≡ c) ⊎ (d < c) = eq-or-lt_of_le le in ⊎_elim (λ (e : d ≡ c). sym e) (λ (lt : d < c). absurd (same_count v xids d c q p lt)) cases in
    ⊎_elim (λ (lt : c < d). absurd (same_count v xids c d p q lt)) later either

pub not_out_of_turn : (v : Visibility) (xids : List ℕ) (place c : ℕ) → IsOutOfTurn v xids place → IsPrefixShown v xids c → ⊥
not_out_of_turn v xids place c o p =
    let either : (o.gap < c) ⊎ (c ≤ o.gap) = cases_lt o.gap c in
    let early : o.gap < c → ⊥ = λ lt. let yes : shows v xids o.gap ≡ true = p.shown o.gap lt in let no : shows v xids o.gap ≡ false = o.hidden in cc in
    let late : c ≤ o.gap → ⊥ = λ le. let no : shows v xids place ≡ false = p.others place (omega (arith, le, o.before)) o.there in let yes : shows v xids place ≡ true = o.visible in cc in
    ⊎_elim early late either

-- what is said of a commit, by the list of the ids
record Listed (txs : List Tx) (m : ℕ) (tx : Tx) : Type 0 where
  there : m < length (map (λ (x : Tx). x.xid) txs)
  is : slice_index_or (map (λ (x : Tx). x.xid) txs) m 0 ≡ tx.xid

listed : (txs : List Tx) (m : ℕ) (tx : Tx) → slice_get txs m ≡ Some tx → Listed txs m tx
listed [] m tx e = cc
listed (x ∷ txs) zero tx e = let same : x ≡ tx = cc in record { there = omega arith; is = ap (λ (y : Tx). y.xid) same }
listed (x ∷ txs) (suc m) tx e = let l = listed txs m tx e in record { there = omega (arith, l.there); is = l.is }

by_turn : (v : Visibility) (xids : List ℕ) (c m : ℕ) → IsPrefixShown v xids c → m < length xids → shows v xids m ≡ nat_le (suc m) c
by_turn v xids c m p lt =
    let either : (m < c) ⊎ (c ≤ m) = cases_lt m c in
    ⊎_elim (λ (less : m < c). p.shown m less ∙ sym (lt-ltb m c less)) (λ (le : c ≤ m). p.others m le lt ∙ sym (le-ltb m c le)) either

rightly : (v : Visibility) (txs : List Tx) (c m : ℕ) (o : Option Tx) → slice_get txs m ≡ o → IsPrefixShown v (map (λ (x : Tx). x.xid) txs) c → IfSome o (λ (tx : Tx). is_visible v tx.xid ≡ nat_le (suc m) c)
rightly v txs c m None e p = tt
rightly v txs c m (Some tx) e p = let l = listed txs m tx e in ap (is_visible v) (sym l.is) ∙ by_turn v _ c m p l.there

shown_rightly : (h : History) (v : Visibility) (k n : ℕ) → IsPrefixShown v (xids_of h.steps) (count_at h k) → 0 < n → IsShownRightly h v k n
shown_rightly h v k zero p lt = absurd (omega (arith, lt))
shown_rightly h v k (suc m) p lt = rightly v (commits_of h.steps) (count_at h k) m (slice_get (commits_of h.steps) m) refl p

pub honest_is_honest : HonestIsHonest
honest_is_honest h s k q a = record {
  taken = a.taken;
  last = λ lt. shown_rightly h s.visibility k q a.shown lt;
  later = λ le n lt most. shown_rightly h s.visibility k n a.shown (omega (arith, lt));
}

defined_then : (h : History) (s : raw.Snapshot) (c k : ℕ) → IsPrefixShown s.visibility (xids_of h.steps) c → IsHonestAt h s k → IsDefinedAt h s.definition c k
defined_then h s c k p a = record { there = a.there; commits = one_count s.visibility (xids_of h.steps) (count_at h k) c a.shown p; definition = a.taken.definition }

pub refused_is_dishonest : DishonestIsRefused
refused_is_dishonest h s errors.OutOfMemory k ample d a = absurd (ample refl)
refused_is_dishonest h s (errors.OutOfTurn commit) k ample d a = not_out_of_turn s.visibility (xids_of h.steps) commit (count_at h k) d a.shown
refused_is_dishonest h s errors.OtherDefinition k ample d a = d.other k (defined_then h s d.count k d.shown a)
refused_is_dishonest h s errors.OtherRows k ample d a = d.other k (defined_then h s d.count k d.shown a) a.taken.rows

pub defined : (h : History) (d e : TableDef) (c k : ℕ) → k ≤ length h.steps → count_at h k ≡ c → def_after h d.table k ≡ Some e → same_def e d ≡ true → IsDefinedAt h d c k
defined h d e c k le count is same = record { there = le; commits = count; definition = is ∙ ap Some ((Decides-same_def e d).0 same) }

pub not_defined : (h : History) (d e : TableDef) (c k : ℕ) → def_after h d.table k ≡ Some e → same_def e d ≡ false → IsDefinedAt h d c k → ⊥
not_defined h d e c k is differs a = let one : Some e ≡ Some d = sym is ∙ a.definition in let same : e ≡ d = cc in let yes : same_def e d ≡ true = (Decides-same_def e d).1 same in cc

-- what is refused by a cause is honest for no step
pub not_honest : (h : History) (s : raw.Snapshot) (e : SnapshotError) → (e ≡ errors.OutOfMemory → ⊥) → IsDishonest h s e → (k : ℕ) × IsHonestAt h s k → ⊥
not_honest h s e ample d a = refused_is_dishonest h s e a.0 ample d a.1
