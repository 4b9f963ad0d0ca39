-- What holds of each legal history.
use Rattle.std.proofs.Common.{◌≡◌, ℕ, ◌+◌, ◌≤◌, ◌<◌, Bool, true, false, not, cond, ◌&&◌, ◌||◌, ◌==◌, List, [], ◌∷◌, ◌++◌, None, Some, refl, sym, ◌∙◌, ap, subst, arith, append_assoc, length-append}
use Rattle.std.specs.Prelude.{filter, find, length}
use Rattle.std.specs.List.{AllByRecursion, list_any}
use Rattle.std.specs.Option.{option_map}
use Rattle.std.proofs.lemmas.List.{append-nil}
use Rattle.std.proofs.lemmas.List.Elements.{filter-append}
use Rattle.std.proofs.lemmas.Bool.Decides.{Decides-eqb, nat_tests}
use Rattle.shape_base.specs.Tables.{same_text}
use Rattle.shape_base.specs.declared.cause.Cause.{Cause}
use Rattle.shape_base.specs.declared.registry_event.RegistryEvent.{RegistryEvent}
use Rattle.shape_base.specs.declared.registry_event.RegistryEvent.TheVariants.{Registered, Ready, Removed, Took, Redefined}
use Rattle.shape_base.specs.RegistryHistory.{Registration, Removal, registrations, registration_in, removals, removal_in, made_ready, ready_in, was_registered, was_removed, had_ready, is_live, is_starting, live_registrations, MayRegister, MayFollow, MayAllFollow, IsLegal}
use Rattle.shape_registry.proofs.Growing.{each_of_filter, each_from, part_stays, part_grows, any_more}

-- ---- lists whose items differ

abbrev pub AreApart : {A : Type 0} → (A → A → Bool) → List A → Type 0
AreApart same [] = Unit {0}
AreApart same (x ∷ xs) = AllByRecursion (λ y. same y x ≡ false) xs × AreApart same xs

each_and_last : {A : Type 0} (P : A → Type 0) (xs : List A) (y : A) → AllByRecursion P xs → P y → AllByRecursion P (xs ++ y ∷ [])
each_and_last P [] y h last = (last, tt)
each_and_last P (x ∷ xs) y h last = (h.0, each_and_last P xs y h.1 last)

apart_push : {A : Type 0} (same : A → A → Bool) (xs : List A) (y : A) → AreApart same xs → AllByRecursion (λ x. same y x ≡ false) xs → AreApart same (xs ++ y ∷ [])
apart_push same [] y h new = (tt, tt)
apart_push same (x ∷ xs) y h new = (each_and_last (λ y. same y x ≡ false) xs y h.0 new.0, apart_push same xs y h.1 new.1)

apart_filter : {A : Type 0} (same : A → A → Bool) (p : A → Bool) (xs : List A) → AreApart same xs → AreApart same (filter p xs)
apart_filter same p [] h = tt
apart_filter same p (x ∷ xs) h = pick (p x) (each_of_filter (λ y. same y x ≡ false) p xs h.0) (apart_filter same p xs h.1)
  where
    pick : (b : Bool) → AllByRecursion (λ y. same y x ≡ false) (filter p xs) → AreApart same (filter p xs) → AreApart same (cond b (x ∷ filter p xs) (filter p xs))
    pick true here rest = (here, rest)
    pick false here rest = rest

length_filter : {A : Type 0} (p : A → Bool) (xs : List A) → length (filter p xs) ≤ length xs
length_filter p [] = omega arith
length_filter p (x ∷ xs) = pick (p x) (length_filter p xs)
  where
    pick : (b : Bool) → length (filter p xs) ≤ length xs → length (cond b (x ∷ filter p xs) (filter p xs)) ≤ length (x ∷ xs)
    pick true h = omega arith
    pick false h = omega arith

-- ---- induction along a legal history

pub along : (limit : ℕ) (P : List RegistryEvent → Type 0) → ((es : List RegistryEvent) (e : RegistryEvent) → P es → MayFollow limit es e → P (es ++ e ∷ []))
    → (before es : List RegistryEvent) → P before → MayAllFollow limit before es → P (before ++ es)
along limit P step before [] h all = subst P (sym (append-nil before)) h
along limit P step before (e ∷ es) h all = subst P (append_assoc before (e ∷ []) es) (along limit P step (before ++ e ∷ []) es (step before e h all.0) all.1)

-- ---- the facts

abbrev pub same_number : Registration → Registration → Bool
same_number q r = q.number == r.number

abbrev pub same_name : Registration → Registration → Bool
same_name q r = same_text r.identity q.identity

pub record Facts (limit : ℕ) (es : List RegistryEvent) : Type 0 where
  -- the numbers given go up to how many they are, and differ
  pub below : AllByRecursion (λ r. r.number ≤ length (registrations es)) (registrations es)
  pub apart : AreApart same_number (registrations es)
  -- what was removed or became ready had been registered
  pub removed : (number : ℕ) → was_registered es number ≡ false → was_removed es number ≡ false
  pub readied : (number : ℕ) → was_registered es number ≡ false → had_ready es number ≡ false
  -- the identities of live handles differ, and they are at most the limit
  pub names : AreApart same_name (live_registrations es)
  pub within : length (live_registrations es) ≤ limit

-- a number that no item has
none_of : {A : Type 0} (number : A → ℕ) (n : ℕ) (xs : List A) → AllByRecursion (λ x. number x < n) xs → list_any (λ x. number x == n) xs ≡ false
none_of number n [] h = refl
none_of number n (x ∷ xs) h = both (number x == n) (list_any (λ x. number x == n) xs) (less (number x) n h.0) (none_of number n xs h.1)
  where
    both : (a b : Bool) → a ≡ false → b ≡ false → (a || b) ≡ false
    both true b h g = h
    both false b h g = g

    less : (m n : ℕ) → m < n → (m == n) ≡ false
    less m n h = grind (arith, nat_tests)

-- the next number was never registered
pub never_registered : (limit : ℕ) (es : List RegistryEvent) → Facts limit es → was_registered es (length (registrations es) + 1) ≡ false
never_registered limit es facts = none_of (λ (r : Registration). r.number) (length (registrations es) + 1) (registrations es)
    (each_from (λ r. r.number ≤ length (registrations es)) (λ r. r.number < length (registrations es) + 1) (registrations es) (λ r h. omega arith) facts.below)

either : (a b : Bool) → (a || b) ≡ false → (a ≡ false) × (b ≡ false)
either true b h = cc
either false b h = (refl, h)

-- the facts of an event that gives no number
module _ (limit : ℕ) (es : List RegistryEvent) (e : RegistryEvent) (facts : Facts limit es) (none : registration_in e ≡ None) where
  same_given : registrations (es ++ e ∷ []) ≡ registrations es
  same_given = part_stays registration_in es e none

  same_was : (number : ℕ) → was_registered (es ++ e ∷ []) number ≡ was_registered es number
  same_was number = ap (λ (rs : List Registration). list_any (λ r. r.number == number) rs) same_given

  pub facts_later : ((number : ℕ) → was_registered es number ≡ false → was_removed (es ++ e ∷ []) number ≡ false) → ((number : ℕ) → was_registered es number ≡ false → had_ready (es ++ e ∷ []) number ≡ false)
      → (p : Registration → Bool) → live_registrations (es ++ e ∷ []) ≡ filter p (live_registrations es) → Facts limit (es ++ e ∷ [])
  facts_later removed readied p live = record {
    below = subst (λ rs. AllByRecursion (λ r. r.number ≤ length rs) rs) (sym same_given) facts.below;
    apart = subst (AreApart same_number) (sym same_given) facts.apart;
    removed = λ number h. removed number (sym (same_was number) ∙ h);
    readied = λ number h. readied number (sym (same_was number) ∙ h);
    names = subst (AreApart same_name) (sym live) (apart_filter same_name p (live_registrations es) facts.names);
    within = let shorter : length (filter p (live_registrations es)) ≤ length (live_registrations es) = length_filter p (live_registrations es) in
        let w : length (live_registrations es) ≤ limit = facts.within in
        subst (λ rs. length rs ≤ limit) (sym live) (omega arith);
  }

pub all_of : {A : Type 0} (xs : List A) → filter (λ _. true) xs ≡ xs
all_of [] = refl
all_of (x ∷ xs) = ap (λ ys. x ∷ ys) (all_of xs)

-- those that are live where these were removed
abbrev pub live_of : List Removal → List Registration → List Registration
live_of gone rs = filter (λ r. not (list_any (λ x. x.number == r.number) gone)) rs

pub live_stays : (es : List RegistryEvent) (e : RegistryEvent) → registration_in e ≡ None → removal_in e ≡ None → live_registrations (es ++ e ∷ []) ≡ live_registrations es
live_stays es e none kept = ap (λ rs. live_of (removals (es ++ e ∷ [])) rs) (part_stays registration_in es e none) ∙ ap (λ gone. live_of gone (registrations es)) (part_stays removal_in es e kept)

pub removed_stays : (es : List RegistryEvent) (e : RegistryEvent) (number : ℕ) → removal_in e ≡ None → was_removed (es ++ e ∷ []) number ≡ was_removed es number
removed_stays es e number none = ap (λ (gone : List Removal). list_any (λ x. x.number == number) gone) (part_stays removal_in es e none)

pub ready_stays : (es : List RegistryEvent) (e : RegistryEvent) (number : ℕ) → ready_in e ≡ None → had_ready (es ++ e ∷ []) number ≡ had_ready es number
ready_stays es e number none = ap (λ ns. list_any (λ n. n == number) ns) (part_stays ready_in es e none)

-- the registrations that a removal leaves
kept_filter : (gone : List Removal) (x : Removal) (rs : List Registration) → live_of (gone ++ x ∷ []) rs ≡ filter (λ r. not (x.number == r.number)) (live_of gone rs)
kept_filter gone x [] = refl
kept_filter gone x (r ∷ rs) = ap (λ b. cond (not b) (r ∷ live_of (gone ++ x ∷ []) rs) (live_of (gone ++ x ∷ []) rs)) (any_more (λ y. y.number == r.number) gone x)
    ∙ pick (list_any (λ y. y.number == r.number) gone) (x.number == r.number) refl (kept_filter gone x rs)
  where
    pick : (a b : Bool) → (x.number == r.number) ≡ b → live_of (gone ++ x ∷ []) rs ≡ filter (λ r. not (x.number == r.number)) (live_of gone rs)
        → cond (not (a || b)) (r ∷ live_of (gone ++ x ∷ []) rs) (live_of (gone ++ x ∷ []) rs) ≡ filter (λ r. not (x.number == r.number)) (cond (not a) (r ∷ live_of gone rs) (live_of gone rs))
    pick true b is h = h
    pick false true is h = h ∙ ap (λ c. cond (not c) (r ∷ filter (λ r. not (x.number == r.number)) (live_of gone rs)) (filter (λ r. not (x.number == r.number)) (live_of gone rs))) (sym is)
    pick false false is h = ap (λ ys. r ∷ ys) h ∙ ap (λ c. cond (not c) (r ∷ filter (λ r. not (x.number == r.number)) (live_of gone rs)) (filter (λ r. not (x.number == r.number)) (live_of gone rs))) (sym is)

pub live_without : (es : List RegistryEvent) (number : ℕ) (cause : Cause) → live_registrations (es ++ Removed number cause ∷ []) ≡ filter (λ r. not (number == r.number)) (live_registrations es)
live_without es number cause = ap (λ rs. live_of (removals (es ++ Removed number cause ∷ [])) rs) (part_stays registration_in es (Removed number cause) refl)
    ∙ ap (λ gone. live_of gone (registrations es)) (part_grows removal_in es (Removed number cause) (record { number = number; cause = cause }) refl)
    ∙ kept_filter (removals es) (record { number = number; cause = cause }) (registrations es)

-- one that is live is another than one that was never registered
other : (es : List RegistryEvent) (n number : ℕ) → was_registered es n ≡ true → was_registered es number ≡ false → (n == number) ≡ false
other es n number h g = pick (n == number) refl
  where
    pick : (b : Bool) → (n == number) ≡ b → b ≡ false
    pick true is = let same : n ≡ number = (Decides-eqb n number).0 is in let t : was_registered es number ≡ true = subst (λ k. was_registered es k ≡ true) same h in cc
    pick false is = refl

and_left : (a b : Bool) → (a && b) ≡ true → a ≡ true
and_left true b h = refl
and_left false b h = h

live_was : (es : List RegistryEvent) (number : ℕ) → is_live es number ≡ true → was_registered es number ≡ true
live_was es number h = and_left (was_registered es number) (not (was_removed es number)) h

starting_was : (es : List RegistryEvent) (number : ℕ) → is_starting es number ≡ true → was_registered es number ≡ true
starting_was es number h = live_was es number (and_left (is_live es number) (not (had_ready es number)) h)

both_false : (a b : Bool) → a ≡ false → b ≡ false → (a || b) ≡ false
both_false true b h g = h
both_false false b h g = g

-- no live handle has the identity
unlike : (identity : List ℕ) (rs : List Registration) → option_map (λ (r : Registration). r.number) (find (λ r. same_text r.identity identity) rs) ≡ None → AllByRecursion (λ r. same_text r.identity identity ≡ false) rs
unlike identity [] h = tt
unlike identity (r ∷ rs) h = pick (same_text r.identity identity) refl (unlike identity rs) h
  where
    pick : (b : Bool) → same_text r.identity identity ≡ b → (option_map (λ (r : Registration). r.number) (find (λ r. same_text r.identity identity) rs) ≡ None → AllByRecursion (λ r. same_text r.identity identity ≡ false) rs)
        → option_map (λ (r : Registration). r.number) (cond b (Some r) (find (λ r. same_text r.identity identity) rs)) ≡ None → (same_text r.identity identity ≡ false) × AllByRecursion (λ r. same_text r.identity identity ≡ false) rs
    pick true is rest h = cc
    pick false is rest h = (is, rest h)

-- ---- the facts of a registration

module _ (limit : ℕ) (es : List RegistryEvent) (r : Registration) (facts : Facts limit es) (may : MayRegister limit es r) where
  pub grows : registrations (es ++ Registered r.number r.identity r.table r.last ∷ []) ≡ registrations es ++ r ∷ []
  grows = part_grows registration_in es (Registered r.number r.identity r.table r.last) r refl

  pub new_number : was_registered es r.number ≡ false
  new_number = subst (λ n. was_registered es n ≡ false) (sym may.next) (never_registered limit es facts)

  was_before : (number : ℕ) → was_registered (es ++ Registered r.number r.identity r.table r.last ∷ []) number ≡ false → was_registered es number ≡ false
  was_before number h = (either (was_registered es number) (r.number == number) (sym (ap (λ (rs : List Registration). list_any (λ q. q.number == number) rs) grows ∙ any_more (λ q. q.number == number) (registrations es) r) ∙ h)).0

  pub not_removed : was_removed es r.number ≡ false
  not_removed = facts.removed r.number new_number

  pub live_grows : live_registrations (es ++ Registered r.number r.identity r.table r.last ∷ []) ≡ live_registrations es ++ r ∷ []
  live_grows = ap (λ rs. live_of (removals (es ++ Registered r.number r.identity r.table r.last ∷ [])) rs) grows
      ∙ ap (λ gone. live_of gone (registrations es ++ r ∷ [])) (part_stays removal_in es (Registered r.number r.identity r.table r.last) refl)
      ∙ filter-append (λ q. not (list_any (λ x. x.number == q.number) (removals es))) (registrations es) (r ∷ [])
      ∙ ap (λ b. live_registrations es ++ cond (not b) (r ∷ []) []) not_removed

  below_next : (rs : List Registration) (n m : ℕ) → n ≤ m → AllByRecursion (λ q. q.number ≤ n) rs → AllByRecursion (λ q. q.number ≤ m) rs
  below_next rs n m h all = each_from (λ (q : Registration). q.number ≤ n) (λ q. q.number ≤ m) rs (λ q g. omega arith) all

  apart_numbers : (rs : List Registration) (n : ℕ) → AllByRecursion (λ q. q.number ≤ n) rs → r.number ≡ n + 1 → AllByRecursion (λ q. same_number r q ≡ false) rs
  apart_numbers rs n all is = each_from (λ (q : Registration). q.number ≤ n) (λ q. (r.number == q.number) ≡ false) rs (λ q h. differ r.number q.number n h is) all
    where
      differ : (a b n : ℕ) → b ≤ n → a ≡ n + 1 → (a == b) ≡ false
      differ a b n h is = grind (arith, nat_tests)

  pub facts_registered : Facts limit (es ++ Registered r.number r.identity r.table r.last ∷ [])
  facts_registered = let longer : length (registrations es ++ r ∷ []) ≡ length (registrations es) + 1 = length-append (registrations es) (r ∷ []) in record {
    below = subst (λ rs. AllByRecursion (λ q. q.number ≤ length rs) rs) (sym grows)
        (each_and_last (λ q. q.number ≤ length (registrations es ++ r ∷ [])) (registrations es) r
        (below_next (registrations es) (length (registrations es)) (length (registrations es ++ r ∷ [])) (omega arith) facts.below)
        (let n : r.number ≡ length (registrations es) + 1 = may.next in omega arith));
    apart = subst (AreApart same_number) (sym grows) (apart_push same_number (registrations es) r facts.apart (apart_numbers (registrations es) (length (registrations es)) facts.below may.next));
    removed = λ number h. removed_stays es (Registered r.number r.identity r.table r.last) number refl ∙ facts.removed number (was_before number h);
    readied = λ number h. ready_stays es (Registered r.number r.identity r.table r.last) number refl ∙ facts.readied number (was_before number h);
    names = subst (AreApart same_name) (sym live_grows) (apart_push same_name (live_registrations es) r facts.names (unlike r.identity (live_registrations es) may.free));
    within = let longest : length (live_registrations es ++ r ∷ []) ≡ length (live_registrations es) + 1 = length-append (live_registrations es) (r ∷ []) in
        let room : length (live_registrations es) < limit = may.room in
        subst (λ rs. length rs ≤ limit) (sym live_grows) (omega arith);
  }

-- ---- all events

facts_next : (limit : ℕ) (es : List RegistryEvent) (e : RegistryEvent) → Facts limit es → MayFollow limit es e → Facts limit (es ++ e ∷ [])
facts_next limit es (Registered n i t l) facts may = facts_registered limit es (record { number = n; identity = i; table = t; last = l }) facts may
facts_next limit es (Ready n) facts may = facts_later limit es (Ready n) facts refl
    (λ number h. removed_stays es (Ready n) number refl ∙ facts.removed number h)
    (λ number h. ap (λ ns. list_any (λ n. n == number) ns) (part_grows ready_in es (Ready n) n refl) ∙ any_more (λ n. n == number) (made_ready es) n
    ∙ both_false (had_ready es number) (n == number) (facts.readied number h) (other es n number (starting_was es n may) h))
    (λ _. true) (live_stays es (Ready n) refl refl ∙ sym (all_of (live_registrations es)))
facts_next limit es (Removed n c) facts may = facts_later limit es (Removed n c) facts refl
    (λ number h. ap (λ (gone : List Removal). list_any (λ x. x.number == number) gone) (part_grows removal_in es (Removed n c) (record { number = n; cause = c }) refl) ∙ any_more (λ x. x.number == number) (removals es) (record { number = n; cause = c })
    ∙ both_false (was_removed es number) (n == number) (facts.removed number h) (other es n number (live_was es n may) h))
    (λ number h. ready_stays es (Removed n c) number refl ∙ facts.readied number h)
    (λ r. not (n == r.number)) (live_without es n c)
facts_next limit es (Took lsn xid) facts may = facts_later limit es (Took lsn xid) facts refl
    (λ number h. removed_stays es (Took lsn xid) number refl ∙ facts.removed number h)
    (λ number h. ready_stays es (Took lsn xid) number refl ∙ facts.readied number h)
    (λ _. true) (live_stays es (Took lsn xid) refl refl ∙ sym (all_of (live_registrations es)))
facts_next limit es (Redefined d) facts may = facts_later limit es (Redefined d) facts refl
    (λ number h. removed_stays es (Redefined d) number refl ∙ facts.removed number h)
    (λ number h. ready_stays es (Redefined d) number refl ∙ facts.readied number h)
    (λ _. true) (live_stays es (Redefined d) refl refl ∙ sym (all_of (live_registrations es)))

pub facts_of : (limit : ℕ) (es : List RegistryEvent) → IsLegal limit es → Facts limit es
facts_of limit es legal = along limit (Facts limit) (facts_next limit) [] es (record { below = tt; apart = tt; removed = λ number h. refl; readied = λ number h. refl; names = tt; within = omega arith }) legal
