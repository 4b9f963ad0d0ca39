-- Those that are late are a front of those without a reply.
use Rattle.std.specs.Prelude.{slice_get, ◌&&◌, ◌||◌, nat_le, take, take_while, Result, Ok, Err, IfOk}
use Rattle.std.specs.BTreeMap.{is_at}
use Rattle.core_exchanges.specs.declared.indexes.Indexes.{Indexes}
use Rattle.std.proofs.lemmas.Bool.Decides.{Decides-eqb, nat_tests}
use Rattle.std.proofs.Common.{◌≡◌, Bool, true, false, cond, ◌==◌, ℕ, zero, suc, ◌+◌, ◌≤◌, ◌<◌, List, [], ◌∷◌, refl, sym, ap, ◌∙◌, subst, Option, None, Some, arith}
use Rattle.std.specs.List.{AllByRecursion, list_any, prefix_len}
use Rattle.std.specs.List.Sorted.{IsStrictlySortedBy}
use Rattle.std.specs.Ordering.{nat_cmp}
use Rattle.std.specs.declared.cmp.Ordering.TheVariants.{Less}
use Rattle.core_law.specs.Situation as law
use Rattle.core_law.specs.Situation.{Options}
use Rattle.core_law.specs.Run.{is_late_at}
use Rattle.core_law.specs.Reached.{MomentsRise}
use Rattle.core_exchanges.specs.declared.exchange.Exchange.{Exchange}
use Rattle.core_exchanges.specs.Indexing.{is_among, is_open_in}
use Rattle.core_exchanges.specs.Standing.{EachStands, StandsThere, is_open, is_there, passes_at, ArePlaces}
use Rattle.core_exchanges.specs.Giving.{is_late, is_late_there}
use Rattle.core_exchanges.proofs.Standings.{stands_there}

-- ---- a front of what is sorted

more_step : (n k : ℕ) (ks : List ℕ) (b : Bool) → take (cond b (1 + n) 0) (k ∷ ks) ≡ cond b (k ∷ take n ks) []
more_step n k ks true = let e : 1 + n ≡ suc n = omega arith in ap (λ m. take m (k ∷ ks)) e
more_step n k ks false = refl

take_more : (t : ℕ → Bool) (k : ℕ) (ks : List ℕ) → take_while t (k ∷ ks) ≡ cond (t k) (k ∷ take_while t ks) []
take_more t k ks = more_step (prefix_len t ks) k ks (t k)

front_step : (P : ℕ → Type 0) (k : ℕ) (front : List ℕ) (b : Bool) → P k → AllByRecursion P front → AllByRecursion P (cond b (k ∷ front) [])
front_step P k front true one h = (one, h)
front_step P k front false one h = tt

all_front : (P : ℕ → Type 0) (t : ℕ → Bool) (ks : List ℕ) → AllByRecursion P ks → AllByRecursion P (take_while t ks)
all_front P t [] h = tt
all_front P t (k ∷ ks) h = subst (λ (fs : List ℕ). AllByRecursion P fs) (sym (take_more t k ks)) (front_step P k (take_while t ks) (t k) h.0 (all_front P t ks h.1))

rises_step : (k : ℕ) (front : List ℕ) (b : Bool) → AllByRecursion (λ q. nat_cmp k q ≡ Less) front → IsStrictlySortedBy nat_cmp front → IsStrictlySortedBy nat_cmp (cond b (k ∷ front) [])
unfolding IsStrictlySortedBy
rises_step k front true one h = (one, h)
rises_step k front false one h = tt

pub front_rises : (t : ℕ → Bool) (ks : List ℕ) → IsStrictlySortedBy nat_cmp ks → IsStrictlySortedBy nat_cmp (take_while t ks)
unfolding IsStrictlySortedBy
front_rises t [] h = tt
front_rises t (k ∷ ks) h = subst (λ (fs : List ℕ). IsStrictlySortedBy nat_cmp fs) (sym (take_more t k ks)) (rises_step k (take_while t ks) (t k) (all_front (λ q. nat_cmp k q ≡ Less) t ks h.0) (front_rises t ks h.1))

-- ---- what is in the front

above_step : (k p q : ℕ) (b r : Bool) → (b ≡ true → q ≡ p) → nat_cmp k q ≡ Less → (r ≡ true → k < p) → (b || r) ≡ true → k < p
above_step k p q true r same one h is = let e = same refl in grind (arith, nat_tests, one, e)
above_step k p q false r same one h is = h is

above : (k p : ℕ) (ks : List ℕ) → AllByRecursion (λ q. nat_cmp k q ≡ Less) ks → is_among p ks ≡ true → k < p
above k p [] h is = absurd (grind (arith, is))
above k p (q ∷ ks) h is = above_step k p q (q == p) (is_among p ks) (Decides-eqb q p).0 h.0 (above k p ks h.1) is

-- where a number passes, each lower one passes
abbrev pub PassesBelow : (ℕ → Bool) → Type 0
PassesBelow t = (p q : ℕ) → p < q → t q ≡ true → t p ≡ true

false_and : (a b : Bool) → (a ≡ true → b ≡ true → ⊥) → false ≡ (a && b)
false_and true true h = absurd (h refl refl)
false_and true false h = refl
false_and false b h = refl

none_front : (t : ℕ → Bool) (k p : ℕ) (b r : Bool) → PassesBelow t → t k ≡ false → (b ≡ true → k ≡ p) → (r ≡ true → k < p) → (b || r) ≡ true → t p ≡ true → ⊥
none_front t k p true r below fails same h is holds = let e = subst (λ q. t q ≡ true) (sym (same refl)) holds in grind (arith, e, fails)
none_front t k p false r below fails same h is holds = let e = below k p (h is) holds in grind (arith, e, fails)

and_or : (b a l : Bool) → (b ≡ true → l ≡ true) → (b || (a && l)) ≡ ((b || a) && l)
and_or true a true h = refl
and_or true a false h = sym (h refl)
and_or false a l h = refl

among_step : (t : ℕ → Bool) → PassesBelow t → (k p : ℕ) (ks front : List ℕ) → AllByRecursion (λ q. nat_cmp k q ≡ Less) ks → is_among p front ≡ (is_among p ks && t p) → (b : Bool) → t k ≡ b → is_among p (cond b (k ∷ front) []) ≡ (((k == p) || is_among p ks) && t p)
among_step t below k p ks front one h true is = ap (λ b. (k == p) || b) h ∙ and_or (k == p) (is_among p ks) (t p) (λ e. subst (λ q. t q ≡ true) ((Decides-eqb k p).0 e) is)
among_step t below k p ks front one h false is = false_and ((k == p) || is_among p ks) (t p) (none_front t k p (k == p) (is_among p ks) below is (Decides-eqb k p).0 (above k p ks one))

pub among_front : (t : ℕ → Bool) → PassesBelow t → (ks : List ℕ) → IsStrictlySortedBy nat_cmp ks → (p : ℕ) → is_among p (take_while t ks) ≡ (is_among p ks && t p)
unfolding IsStrictlySortedBy
among_front t below [] h p = refl
among_front t below (k ∷ ks) h p = ap (λ (fs : List ℕ). is_among p fs) (take_more t k ks) ∙ among_step t below k p ks (take_while t ks) h.0 (among_front t below ks h.1 p) (t k) refl

-- ---- late ones

late_before : (o : Options) (now : ℕ) (x : law.Exchange) (xs : List law.Exchange) (q : ℕ) → AllByRecursion (λ (y : law.Exchange). x.moment ≤ y.moment) xs → passes_at (is_late_at o now) xs q ≡ true → is_late_at o now x ≡ true
late_before o now x [] q h is = absurd (grind (arith, is))
late_before o now x (y ∷ xs) zero h is = let e = h.0 in grind (arith, nat_tests, e, is)
late_before o now x (y ∷ xs) (suc q) h is = late_before o now x xs q h.1 is

pub late_below : (o : Options) (now : ℕ) (xs : List law.Exchange) → MomentsRise xs → PassesBelow (passes_at (is_late_at o now) xs)
late_below o now [] h p q less is = absurd (grind (arith, is))
late_below o now (x ∷ xs) h zero zero less is = absurd (omega arith)
late_below o now (x ∷ xs) h zero (suc q) less is = late_before o now x xs q h.0 is
late_below o now (x ∷ xs) h (suc p) zero less is = absurd (omega arith)
late_below o now (x ∷ xs) h (suc p) (suc q) less is = late_below o now xs h.1 p q (omega arith) is

late_there : (o : Options) (now hold : ℕ) (a : Option Exchange) (b : Option law.Exchange) → StandsThere a b → o.limits.hold ≡ hold → is_late_there now hold a ≡ is_there (is_late_at o now) b
late_there o now hold None None h same = refl
late_there o now hold None (Some x) h same = absurd h
late_there o now hold (Some e) None h same = absurd h
late_there o now hold (Some e) (Some x) h same = ap (λ m. nat_le (m + hold) now) h.moment ∙ ap (λ k. nat_le (x.moment + k) now) (sym same)

both_pass : (o : Options) (now : ℕ) (x : Option law.Exchange) → (is_there is_open x && is_there (is_late_at o now) x) ≡ is_there (is_late o now) x
both_pass o now None = refl
both_pass o now (Some x) = refl

same_test : (p k : ℕ) → (k == p) ≡ is_at (nat_cmp p) k
same_test p k = grind (arith, nat_tests)

pub among_keys : (p : ℕ) (ks : List ℕ) → is_among p ks ≡ list_any (is_at (nat_cmp p)) ks
among_keys p [] = refl
among_keys p (k ∷ ks) = ap (λ b. b || is_among p ks) (same_test p k) ∙ ap (λ b. is_at (nat_cmp p) k || b) (among_keys p ks)

pub late_places : (o : Options) (now hold : ℕ) (t : Indexes) (es : List Exchange) (xs : List law.Exchange) → EachStands es xs → ((p : ℕ) → is_open_in t p ≡ passes_at is_open xs p) → IsStrictlySortedBy nat_cmp t.unanswered.keys
    → MomentsRise xs → o.limits.hold ≡ hold → (places : List ℕ) → places ≡ take_while (λ p. is_late_there now hold (slice_get es p)) t.unanswered.keys → ArePlaces (is_late o now) xs places
late_places o now hold t es xs each opens sorted rise same places is =
    let test : ℕ → Bool = λ p. is_late_there now hold (slice_get es p) in
    let late : (p : ℕ) → test p ≡ passes_at (is_late_at o now) xs p = λ p. late_there o now hold (slice_get es p) (slice_get xs p) (stands_there es xs p each) same in
    let below : PassesBelow test = λ p q less holds. late p ∙ late_below o now xs rise p q less (sym (late q) ∙ holds) in
    record {
      rising = subst (λ (ks : List ℕ). IsStrictlySortedBy nat_cmp ks) (sym is) (front_rises test t.unanswered.keys sorted);
      exact = λ p. ap (λ (ks : List ℕ). is_among p ks) is ∙ among_front test below t.unanswered.keys sorted p
          ∙ ap (λ b. b && test p) (among_keys p t.unanswered.keys ∙ opens p) ∙ ap (λ b. passes_at is_open xs p && b) (late p) ∙ both_pass o now (slice_get xs p);
    }

pub ok_as : {A E : Type 0} (r : Result A E) (P R : A → Type 0) → ((a : A) → P a → R a) → IfOk r P → IfOk r R
ok_as (Ok a) P R k p = k a p
ok_as (Err e) P R k p = tt
