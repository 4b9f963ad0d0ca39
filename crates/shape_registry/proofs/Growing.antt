-- The parts of a history with one event more.
use Rattle.std.proofs.Common.{◌≡◌, ℕ, Bool, true, false, cond, ◌||◌, ◌==◌, List, [], ◌∷◌, ◌++◌, map, Option, None, Some, refl, ◌∙◌, ap}
use Rattle.std.specs.Prelude.{filter, filter_map, find}
use Rattle.std.specs.List.{AllByRecursion, list_any, cons_option}
use Rattle.std.specs.Option.{option_map}
use Rattle.std.proofs.lemmas.List.{append-nil}
use Rattle.std.proofs.lemmas.List.Elements.{filter_map-append}
use Rattle.std.proofs.lemmas.List.Folds.{list_any-append}
use Rattle.std.proofs.lemmas.Bool.Decides.{Decides-eqb}
use Rattle.shape_base.specs.declared.registry_event.RegistryEvent.{RegistryEvent}
use Rattle.shape_base.specs.declared.registry_event.RegistryEvent.TheVariants.{Registered, Ready, Removed, Took, Redefined}
use Rattle.shape_base.specs.RegistryHistory.{was_registered, registers, events_before}

-- ---- lists

pub each_of_filter : {A : Type 0} (P : A → Type 0) (p : A → Bool) (xs : List A) → AllByRecursion P xs → AllByRecursion P (filter p xs)
each_of_filter P p [] h = tt
each_of_filter P p (x ∷ xs) h = pick (p x) h.0 (each_of_filter P p xs h.1)
  where
    pick : (b : Bool) → P x → AllByRecursion P (filter p xs) → AllByRecursion P (cond b (x ∷ filter p xs) (filter p xs))
    pick true here rest = (here, rest)
    pick false here rest = rest

pub map_each : {A B : Type 0} (f g : A → B) (xs : List A) → AllByRecursion (λ x. f x ≡ g x) xs → map f xs ≡ map g xs
map_each f g [] h = refl
map_each f g (x ∷ xs) h = ap (λ y. y ∷ map f xs) h.0 ∙ ap (λ ys. g x ∷ ys) (map_each f g xs h.1)

pub each_from : {A : Type 0} (P Q : A → Type 0) (xs : List A) → ((x : A) → P x → Q x) → AllByRecursion P xs → AllByRecursion Q xs
each_from P Q [] f h = tt
each_from P Q (x ∷ xs) f h = (f x h.0, each_from P Q xs f h.1)

pub filter_of_map : {A B : Type 0} (f : A → B) (q : B → Bool) (xs : List A) → filter q (map f xs) ≡ map f (filter (λ x. q (f x)) xs)
filter_of_map f q [] = refl
filter_of_map f q (x ∷ xs) = pick (q (f x)) (filter_of_map f q xs)
  where
    pick : (b : Bool) → filter q (map f xs) ≡ map f (filter (λ x. q (f x)) xs) → cond b (f x ∷ filter q (map f xs)) (filter q (map f xs)) ≡ map f (cond b (x ∷ filter (λ x. q (f x)) xs) (filter (λ x. q (f x)) xs))
    pick true h = ap (λ ys. f x ∷ ys) h
    pick false h = h

pub find_of_map : {A B : Type 0} (f : A → B) (q : B → Bool) (xs : List A) → find q (map f xs) ≡ option_map f (find (λ x. q (f x)) xs)
find_of_map f q [] = refl
find_of_map f q (x ∷ xs) = pick (q (f x)) (find_of_map f q xs)
  where
    pick : (b : Bool) → find q (map f xs) ≡ option_map f (find (λ x. q (f x)) xs) → cond b (Some (f x)) (find q (map f xs)) ≡ option_map f (cond b (Some x) (find (λ x. q (f x)) xs))
    pick true h = refl
    pick false h = h

-- each number of a list is among its numbers
pub each_among : {A : Type 0} (number : A → ℕ) (xs : List A) → AllByRecursion (λ x. list_any (λ y. number y == number x) xs ≡ true) xs
each_among number [] = tt
each_among number (x ∷ xs) = (itself (number x == number x) ((Decides-eqb (number x) (number x)).1 refl), each_from (λ y. list_any (λ z. number z == number y) xs ≡ true) (λ y. list_any (λ z. number z == number y) (x ∷ xs) ≡ true) xs (λ y h. weaker (number x == number y) (list_any (λ z. number z == number y) xs) h) (each_among number xs))
  where
    itself : (b : Bool) → b ≡ true → (b || list_any (λ y. number y == number x) xs) ≡ true
    itself true h = refl
    itself false h = cc

    weaker : (a b : Bool) → b ≡ true → (a || b) ≡ true
    weaker true b h = refl
    weaker false b h = h

-- ---- one event more

pub part_stays : {A : Type 0} (part : RegistryEvent → Option A) (es : List RegistryEvent) (e : RegistryEvent) → part e ≡ None → filter_map part (es ++ e ∷ []) ≡ filter_map part es
part_stays part es e h = filter_map-append part es (e ∷ []) ∙ ap (λ o. filter_map part es ++ cons_option o []) h ∙ append-nil (filter_map part es)

pub part_grows : {A : Type 0} (part : RegistryEvent → Option A) (es : List RegistryEvent) (e : RegistryEvent) (x : A) → part e ≡ Some x → filter_map part (es ++ e ∷ []) ≡ filter_map part es ++ x ∷ []
part_grows part es e x h = filter_map-append part es (e ∷ []) ∙ ap (λ o. filter_map part es ++ cons_option o []) h

or_false : (b : Bool) → (b || false) ≡ b
or_false true = refl
or_false false = refl

-- one more that is tested
pub any_more : {A : Type 0} (test : A → Bool) (xs : List A) (x : A) → list_any test (xs ++ x ∷ []) ≡ (list_any test xs || test x)
any_more test xs x = list_any-append test xs (x ∷ []) ∙ ap (λ b. list_any test xs || b) (or_false (test x))

-- what stands before the registration of a number stays, once it is registered
before_step : (e f : RegistryEvent) (es : List RegistryEvent) (number : ℕ) (b : Bool) → registers number e ≡ b
    → (b ≡ false → events_before (es ++ f ∷ []) number ≡ events_before es number)
    → cond b [] (e ∷ events_before (es ++ f ∷ []) number) ≡ cond b [] (e ∷ events_before es number)
before_step e f es number true is rest = refl
before_step e f es number false is rest = ap (λ xs. e ∷ xs) (rest refl)

registered_later : (e : RegistryEvent) (es : List RegistryEvent) (number : ℕ) → was_registered (e ∷ es) number ≡ true → registers number e ≡ false → was_registered es number ≡ true
registered_later (Registered n i t l) es number h apart = cases (n == number) h apart
  where
    cases : (b : Bool) → (b || was_registered es number) ≡ true → b ≡ false → was_registered es number ≡ true
    cases true h apart = cc
    cases false h apart = h
registered_later (Ready n) es number h apart = h
registered_later (Removed n c) es number h apart = h
registered_later (Took lsn xid) es number h apart = h
registered_later (Redefined d) es number h apart = h

pub before_stays : (es : List RegistryEvent) (f : RegistryEvent) (number : ℕ) → was_registered es number ≡ true → events_before (es ++ f ∷ []) number ≡ events_before es number
before_stays [] f number h = cc
before_stays (e ∷ es) f number h = before_step e f es number (registers number e) refl (λ apart. before_stays es f number (registered_later e es number h apart))

-- all events stand before a number that is registered last
registered_not : (e : RegistryEvent) (es : List RegistryEvent) (number : ℕ) → was_registered (e ∷ es) number ≡ false → (registers number e ≡ false) × (was_registered es number ≡ false)
registered_not (Registered n i t l) es number h = cases (n == number) h
  where
    cases : (b : Bool) → (b || was_registered es number) ≡ false → (b ≡ false) × (was_registered es number ≡ false)
    cases true h = cc
    cases false h = (refl, h)
registered_not (Ready n) es number h = (refl, h)
registered_not (Removed n c) es number h = (refl, h)
registered_not (Took lsn xid) es number h = (refl, h)
registered_not (Redefined d) es number h = (refl, h)

pub before_new : (es : List RegistryEvent) (e : RegistryEvent) (number : ℕ) → was_registered es number ≡ false → registers number e ≡ true → events_before (es ++ e ∷ []) number ≡ es
before_new [] e number h is = ap (λ b. cond b [] (e ∷ [])) is
before_new (x ∷ es) e number h is = let apart = registered_not x es number h in ap (λ b. cond b [] (x ∷ events_before (es ++ e ∷ []) number)) apart.0 ∙ ap (λ xs. x ∷ xs) (before_new es e number apart.1 is)
