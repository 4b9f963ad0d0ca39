-- The numbers of a legal history: 1, 2, and so on.
use Rattle.std.proofs.Common.{◌≡◌, ℕ, zero, suc, ◌+◌, ◌≤◌, ◌<◌, Bool, true, false, not, cond, ◌||◌, ◌==◌, List, [], ◌∷◌, ◌++◌, length, take, get_or, refl, ap, sym, ◌∙◌, subst, arith, length-append, None}
use Rattle.std.specs.Prelude.{map, filter}
use Rattle.std.specs.List.{range_with_len, list_any, AllByRecursion}
use Rattle.std.proofs.lemmas.Bool.Decides.{nat_tests}
use Rattle.std.proofs.lemmas.List.{map-append}
use Rattle.shape_base.specs.declared.registry_event.RegistryEvent.{RegistryEvent}
use Rattle.shape_base.specs.declared.registry_event.RegistryEvent.TheVariants.{Registered, Ready, Removed, Took, Redefined}
use Rattle.shape_base.specs.RegistryHistory.{Registration, registrations, registration_in, was_registered, was_removed, live_numbers, MayFollow, IsLegal}
use Rattle.shape_registry.proofs.Growing.{part_stays, part_grows, filter_of_map}
use Rattle.shape_registry.proofs.Legal.{along}
use Rattle.core_server.specs.Committing.{AreApart}

-- ---- a range

range_more : (a k : ℕ) → range_with_len a (suc k) ≡ range_with_len a k ++ (a + k) ∷ []
range_more a zero = ap (λ n. n ∷ []) (let e : a ≡ a + 0 = omega arith in e)
range_more a (suc k) = ap (λ ns. a ∷ ns) (range_more (a + 1) k ∙ ap (λ n. range_with_len (a + 1) k ++ n ∷ []) (let e : a + 1 + k ≡ a + suc k = omega arith in e))

any_in : (a k m : ℕ) → a ≤ m → m < a + k → list_any (λ n. n == m) (range_with_len a k) ≡ true
any_in a zero m le lt = absurd (omega (arith, le, lt))
any_in a (suc k) m le lt = pick (a == m) refl (λ next. any_in (a + 1) k m next (omega (arith, lt)))
  where
    pick : (b : Bool) → (a == m) ≡ b → (a + 1 ≤ m → list_any (λ n. n == m) (range_with_len (a + 1) k) ≡ true) → (b || list_any (λ n. n == m) (range_with_len (a + 1) k)) ≡ true
    pick true e rest = refl
    pick false e rest = rest (grind (arith, nat_tests, e, le))

-- ---- the numbers given

any_of_map : (rs : List Registration) (m : ℕ) → list_any (λ n. n == m) (map (λ (r : Registration). r.number) rs) ≡ list_any (λ (r : Registration). r.number == m) rs
any_of_map [] m = refl
any_of_map (r ∷ rs) m = ap (λ b. (r.number == m) || b) (any_of_map rs m)

abbrev AreCounted : List RegistryEvent → Type 0
AreCounted es = map (λ (r : Registration). r.number) (registrations es) ≡ range_with_len 1 (length (registrations es))

counted_with : (rs : List Registration) (r : Registration) → map (λ (r : Registration). r.number) rs ≡ range_with_len 1 (length rs) → r.number ≡ length rs + 1 → map (λ (r : Registration). r.number) (rs ++ r ∷ []) ≡ range_with_len 1 (length (rs ++ r ∷ []))
counted_with rs r h next = map-append (λ (r : Registration). r.number) rs (r ∷ [])
    ∙ ap (λ ns. ns ++ r.number ∷ []) h
    ∙ ap (λ n. range_with_len 1 (length rs) ++ n ∷ []) (let e : r.number ≡ 1 + length rs = omega (arith, next) in e)
    ∙ sym (range_more 1 (length rs))
    ∙ ap (range_with_len 1) (let e : suc (length rs) ≡ length (rs ++ r ∷ []) = (let f = length-append rs (r ∷ []) in omega (arith, f)) in e)

same_counted : (es : List RegistryEvent) (e : RegistryEvent) → registration_in e ≡ None → AreCounted es → AreCounted (es ++ e ∷ [])
same_counted es e none h = subst (λ (rs : List Registration). map (λ (r : Registration). r.number) rs ≡ range_with_len 1 (length rs)) (sym (part_stays registration_in es e none)) h

counted_next : (limit : ℕ) (es : List RegistryEvent) (e : RegistryEvent) → AreCounted es → MayFollow limit es e → AreCounted (es ++ e ∷ [])
counted_next limit es (Registered n i t l) h may = let r : Registration = record { number = n; identity = i; table = t; last = l } in
    subst (λ (rs : List Registration). map (λ (r : Registration). r.number) rs ≡ range_with_len 1 (length rs)) (sym (part_grows registration_in es (Registered n i t l) r refl)) (counted_with (registrations es) r h may.next)
counted_next limit es (Ready n) h may = same_counted es (Ready n) refl h
counted_next limit es (Removed n c) h may = same_counted es (Removed n c) refl h
counted_next limit es (Took lsn xid) h may = same_counted es (Took lsn xid) refl h
counted_next limit es (Redefined d) h may = same_counted es (Redefined d) refl h

pub counted : (limit : ℕ) (es : List RegistryEvent) → IsLegal limit es → AreCounted es
counted limit es legal = along limit AreCounted (counted_next limit) [] es refl legal

-- each number up to how many there are was registered
pub was_given : (limit : ℕ) (es : List RegistryEvent) (m : ℕ) → IsLegal limit es → 1 ≤ m → m < 1 + length (registrations es) → was_registered es m ≡ true
was_given limit es m legal le lt = sym (any_of_map (registrations es) m) ∙ ap (list_any (λ n. n == m)) (counted limit es legal) ∙ any_in 1 (length (registrations es)) m le lt

-- the live numbers are those that were not removed
pub live_range : (limit : ℕ) (es : List RegistryEvent) → IsLegal limit es → live_numbers es ≡ filter (λ n. not (was_removed es n)) (range_with_len 1 (length (registrations es)))
live_range limit es legal = sym (filter_of_map (λ (r : Registration). r.number) (λ n. not (was_removed es n)) (registrations es)) ∙ ap (filter (λ n. not (was_removed es n))) (counted limit es legal)

-- ---- no number stands twice

least_in : (p : ℕ → Bool) (a k b : ℕ) → b ≤ a → AllByRecursion (λ n. b ≤ n) (filter p (range_with_len a k))
least_in p a zero b le = tt
least_in p a (suc k) b le = pick (p a) (least_in p (a + 1) k b (omega (arith, le)))
  where
    pick : (c : Bool) → AllByRecursion (λ n. b ≤ n) (filter p (range_with_len (a + 1) k)) → AllByRecursion (λ n. b ≤ n) (cond c (a ∷ filter p (range_with_len (a + 1) k)) (filter p (range_with_len (a + 1) k)))
    pick true rest = (le, rest)
    pick false rest = rest

at_least : (b : ℕ) (ns : List ℕ) (i : ℕ) → i < length ns → AllByRecursion (λ n. b ≤ n) ns → b ≤ get_or ns i 0
at_least b [] i lt all = omega (arith, lt)
at_least b (n ∷ ns) zero lt all = all.0
at_least b (n ∷ ns) (suc i) lt all = at_least b ns i (omega (arith, lt)) all.1

apart_with : (a : ℕ) (ns : List ℕ) → AllByRecursion (λ n. a + 1 ≤ n) ns → AreApart ns → AreApart (a ∷ ns)
apart_with a ns least h zero lt = refl
apart_with a ns least h (suc i) lt = both (a == get_or ns i 0) (let g = at_least (a + 1) ns i (omega (arith, lt)) least in grind (arith, nat_tests, g)) (h i (omega (arith, lt)))
  where
    both : (b : Bool) → b ≡ false → list_any (λ m. m == get_or ns i 0) (take i ns) ≡ false → (b || list_any (λ m. m == get_or ns i 0) (take i ns)) ≡ false
    both true e f = cc
    both false e f = f

apart_in : (p : ℕ → Bool) (a k : ℕ) → AreApart (filter p (range_with_len a k))
apart_in p a zero = λ i lt. absurd (omega (arith, lt))
apart_in p a (suc k) = pick (p a) (least_in p (a + 1) k (a + 1) (omega arith)) (apart_in p (a + 1) k)
  where
    pick : (c : Bool) → AllByRecursion (λ n. a + 1 ≤ n) (filter p (range_with_len (a + 1) k)) → AreApart (filter p (range_with_len (a + 1) k)) → AreApart (cond c (a ∷ filter p (range_with_len (a + 1) k)) (filter p (range_with_len (a + 1) k)))
    pick true least rest = apart_with a (filter p (range_with_len (a + 1) k)) least rest
    pick false least rest = rest

pub live_apart : (limit : ℕ) (es : List RegistryEvent) → IsLegal limit es → AreApart (live_numbers es)
live_apart limit es legal = subst AreApart (sym (live_range limit es legal)) (apart_in (λ n. not (was_removed es n)) 1 (length (registrations es)))
