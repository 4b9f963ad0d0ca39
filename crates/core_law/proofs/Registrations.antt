-- What a registry's history says of one number after one event more.
use Rattle.std.proofs.Common.{◌≡◌, ℕ, Bool, true, false, not, ◌&&◌, ◌||◌, ◌==◌, List, [], ◌∷◌, ◌++◌, refl, sym, ◌∙◌, ap, Option, None, Some}
use Rattle.std.specs.List.{list_any}
use Rattle.std.specs.Option.{option_map, option_or}
use Rattle.std.specs.Prelude.{cond, find, filter}
use Rattle.std.proofs.lemmas.Bool.{and_from}
use Rattle.std.proofs.lemmas.Bool.Decides.{Decides-eqb}
use Rattle.std.proofs.lemmas.List.Elements.{filter_map-append}
use Rattle.std.proofs.lemmas.List.Folds.{find-append}
use Rattle.shape_base.specs.declared.cause.Cause.{Cause}
use Rattle.shape_base.specs.declared.registry_event.RegistryEvent.{RegistryEvent}
use Rattle.shape_base.specs.declared.registry_event.RegistryEvent.TheVariants.{Registered, Removed}
use Rattle.shape_base.specs.Tables.{same_text}
use Rattle.shape_base.specs.RegistryHistory.{Registration, Removal, removal_in, removals, registrations, was_removed, removal_of, was_registered_under, live_under}
use Rattle.shape_base.proofs.Lemmas.{Decides-same_text, was_registered_under-append, was_removed-append}

pub or_first : (a b : Bool) → a ≡ true → (a || b) ≡ true
or_first true b h = refl
or_first false b h = cc

pub or_second : (a b : Bool) → b ≡ true → (a || b) ≡ true
or_second true b h = refl
or_second false b h = h

-- ---- what is found is among them

record IsAmong (p : Registration → Bool) (xs : List Registration) (n : ℕ) : Type 0 where
  is : list_any (λ (y : Registration). (y.number == n) && p y) xs ≡ true

among_later : (p : Registration → Bool) (x : Registration) (xs : List Registration) (n : ℕ) → IsAmong p xs n → IsAmong p (x ∷ xs) n
among_later p x xs n h = record { is = or_second ((x.number == n) && p x) _ h.is }

among_pick : (p q : Registration → Bool) (x : Registration) (xs : List Registration) (n : ℕ) (a b : Bool) → p x ≡ a → option_map (λ (r : Registration). r.number) (find p (cond b (x ∷ filter q xs) (filter q xs))) ≡ Some n
    → (option_map (λ (r : Registration). r.number) (find p (filter q xs)) ≡ Some n → IsAmong p xs n) → IsAmong p (x ∷ xs) n
among_pick p q x xs n a false is e more = among_later p x xs n (more e)
among_pick p q x xs n true true is e more =
    let same : x.number ≡ n = let f : Some x.number ≡ Some n = ap (λ c. option_map (λ (r : Registration). r.number) (cond c (Some x) (find p (filter q xs)))) (sym is) ∙ e in cc in
    record { is = or_first ((x.number == n) && p x) _ (and_from (x.number == n) (p x) ((Decides-eqb x.number n).1 same) is) }
among_pick p q x xs n false true is e more = among_later p x xs n (more (ap (λ c. option_map (λ (r : Registration). r.number) (cond c (Some x) (find p (filter q xs)))) (sym is) ∙ e))

found_among : (p q : Registration → Bool) (xs : List Registration) (n : ℕ) → option_map (λ (r : Registration). r.number) (find p (filter q xs)) ≡ Some n → IsAmong p xs n
found_among p q [] n e = cc
found_among p q (x ∷ xs) n e = among_pick p q x xs n (p x) (q x) refl e (found_among p q xs n)

-- a number that is live under an identity was registered under it
pub live_registered : (es : List RegistryEvent) (identity : List ℕ) (n : ℕ) → live_under es identity ≡ Some n → was_registered_under es identity n ≡ true
live_registered es identity n e = (found_among (λ (r : Registration). same_text r.identity identity) (λ (r : Registration). not (was_removed es r.number)) (registrations es) n e).is

-- a number that is registered now
pub registered_now : (es : List RegistryEvent) (n : ℕ) (identity : List ℕ) (table : ℕ) (last : Option ℕ) → was_registered_under (es ++ Registered n identity table last ∷ []) identity n ≡ true
registered_now es n identity table last = was_registered_under-append es (Registered n identity table last ∷ []) identity n
    ∙ or_second (was_registered_under es identity n) _ (or_first ((n == n) && same_text identity identity) false (and_from (n == n) (same_text identity identity) ((Decides-eqb n n).1 refl) ((Decides-same_text identity identity).1 refl)))

pub still_registered : (es more : List RegistryEvent) (identity : List ℕ) (n : ℕ) → was_registered_under es identity n ≡ true → was_registered_under (es ++ more) identity n ≡ true
still_registered es more identity n h = was_registered_under-append es more identity n ∙ or_first (was_registered_under es identity n) _ h

-- ---- removals

pub removed_now : (es more : List RegistryEvent) (n : ℕ) (cause : Cause) → was_removed (es ++ Removed n cause ∷ more) n ≡ true
removed_now es more n cause = was_removed-append es (Removed n cause ∷ more) n ∙ or_second (was_removed es n) _ (or_first (n == n) _ ((Decides-eqb n n).1 refl))

none_pick : {A : Type 0} (p : A → Bool) (x : A) (xs : List A) (b : Bool) → (b || list_any p xs) ≡ false → (list_any p xs ≡ false → find p xs ≡ None) → cond b (Some x) (find p xs) ≡ None
none_pick p x xs true e more = cc
none_pick p x xs false e more = more e

pub none_found : {A : Type 0} (p : A → Bool) (xs : List A) → list_any p xs ≡ false → find p xs ≡ None
none_found p [] h = refl
none_found p (x ∷ xs) h = none_pick p x xs (p x) h (none_found p xs)

abbrev pub cause_in : Option Removal → Option Cause
cause_in found = option_map (λ (r : Removal). r.cause) found

-- its cause is the one with which it was removed first
pub cause_now : (es more : List RegistryEvent) (n : ℕ) (cause : Cause) → was_removed es n ≡ false → cause_in (removal_of (es ++ Removed n cause ∷ more) n) ≡ Some cause
cause_now es more n cause live =
    ap (λ rs. cause_in (find (λ (r : Removal). r.number == n) rs)) (filter_map-append removal_in es (Removed n cause ∷ more))
    ∙ ap cause_in (find-append (λ (r : Removal). r.number == n) (removals es) (removals (Removed n cause ∷ more)))
    ∙ ap (λ first. cause_in (option_or first (find (λ (r : Removal). r.number == n) (removals (Removed n cause ∷ more))))) (none_found (λ (r : Removal). r.number == n) (removals es) live)
    ∙ ap (λ b. cause_in (cond b (Some (record { number = n; cause = cause })) (find (λ (r : Removal). r.number == n) (removals more)))) ((Decides-eqb n n).1 refl)
