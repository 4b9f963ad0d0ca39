-- The place of a shape stays as events follow.
use Rattle.std.proofs.Common.{◌≡◌, ℕ, Bool, true, false, List, [], ◌∷◌, ◌++◌, Option, Some, None, refl, sym, ap, ◌∙◌, subst}
use Rattle.std.specs.Prelude.{◌||◌, ◌==◌, if◌then◌else◌, IsSomeAnd}
use Rattle.std.proofs.lemmas.List.{map-append}
use mathlib.Core.List.{IsPrefix}
use Rattle.shape_base.specs.declared.registry_event.RegistryEvent.{RegistryEvent}
use Rattle.shape_base.specs.declared.registry_event.RegistryEvent.TheVariants.{Registered, Ready, Removed, Took, Redefined}
use Rattle.shape_base.specs.RegistryHistory.{registers, was_registered}
use Rattle.shared_shapes.specs.Events.{Noted, Place, events_of, place_of}

or_false : (a b : Bool) → (a || b) ≡ false → (a ≡ false) × (b ≡ false)
or_false true b h = absurd (cc)
or_false false b h = (refl, h)

-- who was not registered by some events was not by the first, and not by the rest
unregistered : (e : RegistryEvent) (es : List RegistryEvent) (n : ℕ) → was_registered (e ∷ es) n ≡ false → (registers n e ≡ false) × (was_registered es n ≡ false)
unregistered (Registered m i t l) es n h = or_false (m == n) (was_registered es n) h
unregistered (Ready m) es n h = (refl, h)
unregistered (Removed m c) es n h = (refl, h)
unregistered (Took l x) es n h = (refl, h)
unregistered (Redefined d) es n h = (refl, h)

some_on : {X : Type 0} (o q : Option X) (P : X → Type 0) → ((x : X) → o ≡ Some x → q ≡ Some x) → IsSomeAnd o P → IsSomeAnd q P
some_on None q P f h = absurd h
some_on (Some x) q P f h = subst (λ o. IsSomeAnd o P) (sym (f x refl)) h

module _ {A : Type 0} where
  pub events_append : (es fs : List (Noted A)) → events_of (es ++ fs) ≡ events_of es ++ events_of fs
  events_append es fs = map-append (λ (e : Noted A). e.event) es fs

  stays_if : (b : Bool) (s x y : Option (Place A)) (p : Place A) → (x ≡ Some p → y ≡ Some p) → (if b then s else x) ≡ Some p → (if b then s else y) ≡ Some p
  stays_if true s x y p f h = h
  stays_if false s x y p f h = f h

  pub place_stays : (es fs : List (Noted A)) (n : ℕ) (p : Place A) → place_of es n ≡ Some p → place_of (es ++ fs) n ≡ Some p
  place_stays [] fs n p h = absurd (cc)
  place_stays (e ∷ es) fs n p h = stays_if (registers n e.event) e.shape (place_of es n) (place_of (es ++ fs) n) p (place_stays es fs n p) h

  pub place_on : (es gs : List (Noted A)) (n : ℕ) (p : Place A) → IsPrefix es gs → place_of es n ≡ Some p → place_of gs n ≡ Some p
  place_on es gs n p pre h = subst (λ l. place_of l n ≡ Some p) pre.1 (place_stays es pre.0 n p h)

  pub placed_on : (es gs : List (Noted A)) (n : ℕ) (P : Place A → Type 0) → IsPrefix es gs → IsSomeAnd (place_of es n) P → IsSomeAnd (place_of gs n) P
  placed_on es gs n P pre h = some_on (place_of es n) (place_of gs n) P (λ p e. place_on es gs n p pre e) h

  -- a number that was not registered has no place
  pub no_place : (es : List (Noted A)) (n : ℕ) → was_registered (events_of es) n ≡ false → place_of es n ≡ None
  no_place [] n h = refl
  no_place (e ∷ es) n h = let u = unregistered e.event (events_of es) n h in
      ap (λ b. if b then e.shape else place_of es n) u.0 ∙ no_place es n u.1

  -- the place of a new number is that of its registration
  pub place_new : (es : List (Noted A)) (e : Noted A) (n : ℕ) → was_registered (events_of es) n ≡ false → registers n e.event ≡ true → place_of (es ++ e ∷ []) n ≡ e.shape
  place_new [] e n h r = ap (λ b. if b then e.shape else None) r
  place_new (x ∷ es) e n h r = let u = unregistered x.event (events_of es) n h in
      ap (λ b. if b then x.shape else place_of (es ++ e ∷ []) n) u.0 ∙ place_new es e n u.1 r
