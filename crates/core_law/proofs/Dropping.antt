-- A number is removed exactly where the events of its shape drop it, and for the cause that they say.
use Rattle.std.proofs.Common.{◌≡◌, ℕ, zero, suc, ◌+◌, ◌<◌, ◌≤◌, Bool, true, false, not, ◌&&◌, ◌||◌, ◌==◌, List, [], ◌∷◌, ◌++◌, length, refl, sym, ◌∙◌, ap, subst, arith, Option, None, Some, IfSome, ◌⊎◌, inl, inr}
use Rattle.std.specs.Bool.{if◌then◌else◌}
use Rattle.std.specs.List.{slice_get}
use Rattle.std.specs.Option.{option_or, option_and_then}
use Rattle.std.specs.Prelude.{find, cond}
use Rattle.std.proofs.lemmas.Bool.{and_parts}
use Rattle.std.proofs.lemmas.Bool.Decides.{Decides-eqb}
use Rattle.std.proofs.lemmas.List.Elements.{filter_map-append}
use Rattle.std.proofs.lemmas.List.Folds.{find-append}
use Rattle.shape_base.specs.declared.ask.Ask.{Ask}
use Rattle.shape_base.specs.declared.cause.Cause.{Cause}
use Rattle.shape_base.specs.declared.change.Tx.{Tx}
use Rattle.shape_base.specs.declared.definition.TableDef.{TableDef}
use Rattle.shape_base.specs.declared.registry_event.RegistryEvent.{RegistryEvent}
use Rattle.shape_base.specs.declared.registry_event.RegistryEvent.TheVariants.{Registered, Ready, Removed, Took, Redefined}
use Rattle.shape_base.specs.Snapshot.{Snapshot}
use Rattle.shape_base.specs.RegistryHistory.{Removal, removal_in, removals, registrations, was_registered, was_removed, removal_of, is_live, live_under, last_id, definition_after}
use Rattle.shape_base.proofs.Lemmas.{was_registered-append, was_removed-append}
use Rattle.shape_json.specs.ShapeHistory.{Reader, ShapeEvent, Snapped, Dropped, drop_at, drop_of}
use Rattle.shape_json.specs.ShapeHistory as shapes
use Rattle.shape_json.proofs.Histories.{drop_next}
use Rattle.shape_registry.proofs.Growing.{part_stays}
use Rattle.shape_registry.proofs.Legal.{facts_of, never_registered}
use Rattle.shape_registry.proofs.Catalog.{catalog_placed}
use Rattle.core_law.specs.Situation.{Options, Shape, Server, shape_at, reader_under, reader_for}
use Rattle.core_law.specs.Steps.{change_at, with_event, change_shape, with_registry, with_shape_event, redefined, dropped, with_shape, with_commit, definition_by, removed_for, swept_from, after_commit, started_by}
use Rattle.core_law.specs.Laws.{DropsExactly}
use Rattle.core_law.proofs.Lists.{changed_here, some_same}
use Rattle.core_law.proofs.Server.{Sound, drops, redefines_some}
use Rattle.core_law.proofs.ServerSteps.{HasRoom, at_one_more, at_received_back, registers, commit_better, starts, live_from_starting}
use Rattle.core_law.proofs.Registrations.{or_first, or_second, none_found, cause_in, cause_now}
use Rattle.core_law.proofs.Serving.{Kept, always}
use Rattle.core_law.proofs.Whole.{sound_start}

-- ---- causes of numbers

abbrev cause_at : List RegistryEvent → ℕ → Option Cause
cause_at es n = cause_in (removal_of es n)

-- no removal, no cause
unremoved : (es : List RegistryEvent) (n : ℕ) → was_removed es n ≡ false → cause_at es n ≡ None
unremoved es n h = ap cause_in (none_found (λ (r : Removal). r.number == n) (removals es) h)

-- an event that removes nothing
cause_stays : (es : List RegistryEvent) (e : RegistryEvent) (n : ℕ) → removal_in e ≡ None → cause_at (es ++ e ∷ []) n ≡ cause_at es n
cause_stays es e n none = ap (λ (rs : List Removal). cause_in (find (λ (r : Removal). r.number == n) rs)) (part_stays removal_in es e none)

or_nothing : (a : Option Removal) → option_or a None ≡ a
or_nothing None = refl
or_nothing (Some r) = refl

-- another number's removal
cause_other : (es : List RegistryEvent) (n m : ℕ) (cause : Cause) → (n == m) ≡ false → cause_at (es ++ Removed n cause ∷ []) m ≡ cause_at es m
cause_other es n m cause other =
    ap (λ (rs : List Removal). cause_in (find (λ (r : Removal). r.number == m) rs)) (filter_map-append removal_in es (Removed n cause ∷ []))
    ∙ ap cause_in (find-append (λ (r : Removal). r.number == m) (removals es) (removals (Removed n cause ∷ [])))
    ∙ ap (λ b. cause_in (option_or (removal_of es m) (cond b (Some (record { number = n; cause = cause })) None))) other
    ∙ ap cause_in (or_nothing (removal_of es m))

-- ---- what is kept

-- a shape's number was registered, and its cause is what its events say
pub record IsRight (o : Options) (es : List RegistryEvent) (n : ℕ) (x : Shape) : Type 0 where
  pub known : was_registered es n ≡ true
  pub same : cause_at es n ≡ drop_of x.reader o.limits x.events

pub record AreRight (o : Options) (v : Server) : Type 0 where
  pub sound : Sound o v
  pub right : (n : ℕ) (x : Shape) → shape_at v.shapes n ≡ Some x → IsRight o v.registry n x

still_known : (es more : List RegistryEvent) (n : ℕ) → was_registered es n ≡ true → was_registered (es ++ more) n ≡ true
still_known es more n h = was_registered-append es more n ∙ or_first (was_registered es n) _ h

right_stays : (o : Options) (es : List RegistryEvent) (e : RegistryEvent) (n : ℕ) (x : Shape) → removal_in e ≡ None → IsRight o es n x → IsRight o (es ++ e ∷ []) n x
right_stays o es e n x none is = record { known = still_known es (e ∷ []) n is.known; same = cause_stays es e n none ∙ is.same }

right_other : (o : Options) (es : List RegistryEvent) (n m : ℕ) (cause : Cause) (x : Shape) → (n == m) ≡ false → IsRight o es m x → IsRight o (es ++ Removed n cause ∷ []) m x
right_other o es n m cause x other is = record { known = still_known es (Removed n cause ∷ []) m is.known; same = cause_other es n m cause other ∙ is.same }

-- what a live number's shape has gone through drops it not
not_true : (b : Bool) → not b ≡ true → b ≡ false
not_true true h = cc
not_true false h = refl

live_unremoved : (es : List RegistryEvent) (n : ℕ) → is_live es n ≡ true → was_removed es n ≡ false
live_unremoved es n live = not_true (was_removed es n) (and_parts (was_registered es n) (not (was_removed es n)) live).1

undropped : (o : Options) (es : List RegistryEvent) (n : ℕ) (x : Shape) → was_removed es n ≡ false → IsRight o es n x → drop_of x.reader o.limits x.events ≡ None
undropped o es n x live is = sym is.same ∙ unremoved es n live

next_drop : (o : Options) (x : Shape) (e : ShapeEvent) → drop_of x.reader o.limits x.events ≡ None → drop_of x.reader o.limits (x.events ++ e ∷ []) ≡ drop_at x.reader o.limits x.events e
next_drop o x e none = drop_next x.reader o.limits x.events e ∙ ap (λ c. shapes.or_else c (drop_at x.reader o.limits x.events e)) none

-- ---- one shape changed

apart : (n m : ℕ) → (n == m) ≡ false → n ≡ m → ⊥
apart n m h e = differ (n == m) ((Decides-eqb n m).1 e) h
  where
    differ : (b : Bool) → b ≡ true → b ≡ false → ⊥
    differ true e h = cc
    differ false e h = cc

other_place : {A : Type 0} (f : A → A) (xs : List A) (i j : ℕ) → (i ≡ j → ⊥) → slice_get (change_at f xs i) j ≡ slice_get xs j
other_place f [] i j h = refl
other_place f (x ∷ xs) zero zero h = absurd (h refl)
other_place f (x ∷ xs) zero (suc j) h = refl
other_place f (x ∷ xs) (suc i) zero h = refl
other_place f (x ∷ xs) (suc i) (suc j) h = other_place f xs i j (λ e. h (ap suc e))

other_shape : (f : Shape → Shape) (xs : List Shape) (n m : ℕ) → (n ≡ m → ⊥) → shape_at (change_shape f xs n) m ≡ shape_at xs m
other_shape f xs n zero h = refl
other_shape f xs zero (suc j) h = refl
other_shape f xs (suc i) (suc j) h = other_place f xs i j (λ e. h (ap suc e))

this_shape : (f : Shape → Shape) (xs : List Shape) (n : ℕ) (x : Shape) → shape_at xs n ≡ Some x → shape_at (change_shape f xs n) n ≡ Some (f x)
this_shape f xs zero x h = cc
this_shape f xs (suc i) x h = changed_here f xs i x h

no_place : {A : Type 0} (f : A → A) (xs : List A) (i : ℕ) → slice_get xs i ≡ None → slice_get (change_at f xs i) i ≡ None
no_place f [] i h = refl
no_place f (x ∷ xs) zero h = cc
no_place f (x ∷ xs) (suc i) h = no_place f xs i h

no_shape : (f : Shape → Shape) (xs : List Shape) (n : ℕ) → shape_at xs n ≡ None → shape_at (change_shape f xs n) n ≡ None
no_shape f xs zero h = refl
no_shape f xs (suc i) h = no_place f xs i h

none_some : {A : Type 0} (x : A) → ◌≡◌ {A = Option A} None (Some x) → ⊥
none_some x e = cc

record Was (f : Shape → Shape) (found : Option Shape) (y : Shape) : Type 0 where
  was : Shape
  there : found ≡ Some was
  is : f was ≡ y

was_pick : (f : Shape → Shape) (xs : List Shape) (n : ℕ) (y : Shape) (found : Option Shape) → shape_at xs n ≡ found → shape_at (change_shape f xs n) n ≡ Some y → Was f found y
was_pick f xs n y None at h = absurd (none_some y (sym (no_shape f xs n at) ∙ h))
was_pick f xs n y (Some x) at h = record { was = x; there = refl; is = some_same (f x) y (sym (this_shape f xs n x at) ∙ h) }

was_at : (f : Shape → Shape) (xs : List Shape) (n : ℕ) (y : Shape) → shape_at (change_shape f xs n) n ≡ Some y → Was f (shape_at xs n) y
was_at f xs n y h = was_pick f xs n y (shape_at xs n) refl h

-- whether two numbers are equal, with what follows from either
pick_number : {P : Type 0} (n m : ℕ) (b : Bool) → (n == m) ≡ b → (n ≡ m → P) → ((n == m) ≡ false → P) → P
pick_number n m true e same other = same ((Decides-eqb n m).0 e)
pick_number n m false e same other = other e

by_number : {P : Type 0} (n m : ℕ) → (n ≡ m → P) → ((n == m) ≡ false → P) → P
by_number n m same other = pick_number n m (n == m) refl same other

abbrev AllRight : Options → Server → Type 0
AllRight o v = (n : ℕ) (x : Shape) → shape_at v.shapes n ≡ Some x → IsRight o v.registry n x

-- ---- each step

more_right : (o : Options) (v : Server) (e : RegistryEvent) → removal_in e ≡ None → AllRight o v → AllRight o (with_registry v e)
more_right o v e none right n x at = right_stays o v.registry e n x none (right n x at)

redefined_right : (o : Options) (v : Server) (d : Option TableDef) → AllRight o v → AllRight o (redefined v d)
redefined_right o v None right = right
redefined_right o v (Some d) right = more_right o v (Redefined d) refl right

new_right : (o : Options) (v : Server) (ask : Ask) (reader : Reader) (n : ℕ) (x : Shape) → Sound o v → (n ≡ length v.shapes + 1) × (record { ask = ask; reader = reader; before = length v.commits; events = [] } ≡ x)
    → IsRight o (v.registry ++ Registered (length v.shapes + 1) ask.identity ask.table (last_id v.registry) ∷ []) n x
new_right o v ask reader n x sound is =
    let e = Registered (length v.shapes + 1) ask.identity ask.table (last_id v.registry) in
    let facts = facts_of o.limits.shapes v.registry sound.legal in
    let next : length (registrations v.registry) + 1 ≡ length v.shapes + 1 = ap (λ k. k + 1) sound.counted in
    let fresh : was_removed v.registry (length v.shapes + 1) ≡ false = facts.removed (length v.shapes + 1) (subst (λ k. was_registered v.registry k ≡ false) next (never_registered o.limits.shapes v.registry facts)) in
    let known : was_registered (v.registry ++ e ∷ []) (length v.shapes + 1) ≡ true = was_registered-append v.registry (e ∷ []) (length v.shapes + 1) ∙ or_second (was_registered v.registry (length v.shapes + 1)) _ (or_first ((length v.shapes + 1) == (length v.shapes + 1)) false ((Decides-eqb (length v.shapes + 1) (length v.shapes + 1)).1 refl)) in
    subst (λ y. IsRight o (v.registry ++ Registered (length v.shapes + 1) ask.identity ask.table (last_id v.registry) ∷ []) n y) is.1
    (subst (λ m. IsRight o (v.registry ++ Registered (length v.shapes + 1) ask.identity ask.table (last_id v.registry) ∷ []) m (record { ask = ask; reader = reader; before = length v.commits; events = [] })) (sym is.0)
    (record { known = known; same = cause_stays v.registry e (length v.shapes + 1) refl ∙ unremoved v.registry (length v.shapes + 1) fresh }))

registered_right : (o : Options) (v : Server) (ask : Ask) (reader : Reader) → Sound o v → AllRight o v → AllRight o (with_shape v ask reader)
registered_right o v ask reader sound right n x at = elim (at_one_more v.shapes (record { ask = ask; reader = reader; before = length v.commits; events = [] }) n x at) [
  | inl old ↦ right_stays o v.registry (Registered (length v.shapes + 1) ask.identity ask.table (last_id v.registry)) n x refl (right n x old)
  | inr new ↦ new_right o v ask reader n x sound new
]

-- a number is removed, and its shape has one event more, which drops it for that cause
removed_right : (o : Options) (v : Server) (n : ℕ) (e : ShapeEvent) (cause : Cause) → is_live v.registry n ≡ true → ((x : Shape) → shape_at v.shapes n ≡ Some x → drop_of x.reader o.limits (x.events ++ e ∷ []) ≡ Some cause) → AllRight o v → AllRight o (with_registry (with_shape_event v n e) (Removed n cause))
removed_right o v n e cause live drops right m y at = by_number n m
    (λ same.
    let here : shape_at (change_shape (with_event e) v.shapes n) n ≡ Some y = subst (λ k. shape_at (change_shape (with_event e) v.shapes n) k ≡ Some y) (sym same) at in
    let was = was_at (with_event e) v.shapes n y here in
    let is = right n was.was was.there in
    subst (λ k. IsRight o (v.registry ++ Removed n cause ∷ []) k y) same
    (subst (λ z. IsRight o (v.registry ++ Removed n cause ∷ []) n z) was.is
    (record { known = still_known v.registry (Removed n cause ∷ []) n is.known; same = cause_now v.registry [] n cause (live_unremoved v.registry n live) ∙ sym (drops was.was was.there) })))
    (λ other. right_other o v.registry n m cause y other (right m y (sym (other_shape (with_event e) v.shapes n m (apart n m other)) ∙ at)))

-- a number becomes ready, and its shape has one event more, which drops it not
ready_right : (o : Options) (v : Server) (n : ℕ) (e : ShapeEvent) → is_live v.registry n ≡ true → ((x : Shape) → shape_at v.shapes n ≡ Some x → drop_of x.reader o.limits (x.events ++ e ∷ []) ≡ None) → AllRight o v → AllRight o (with_registry (with_shape_event v n e) (Ready n))
ready_right o v n e live stays right m y at = by_number n m
    (λ same.
    let here : shape_at (change_shape (with_event e) v.shapes n) n ≡ Some y = subst (λ k. shape_at (change_shape (with_event e) v.shapes n) k ≡ Some y) (sym same) at in
    let was = was_at (with_event e) v.shapes n y here in
    let is = right n was.was was.there in
    subst (λ k. IsRight o (v.registry ++ Ready n ∷ []) k y) same
    (subst (λ z. IsRight o (v.registry ++ Ready n ∷ []) n z) was.is
    (record { known = still_known v.registry (Ready n ∷ []) n is.known; same = cause_stays v.registry (Ready n) n refl ∙ unremoved v.registry n (live_unremoved v.registry n live) ∙ sym (stays was.was was.there) })))
    (λ other. right_stays o v.registry (Ready n) m y refl (right m y (sym (other_shape (with_event e) v.shapes n m (apart n m other)) ∙ at)))

removed_if : (v : Server) (n : ℕ) (cause : Cause) (b : Bool) → b ≡ true → with_registry v (Removed n cause) ≡ (if b then with_registry v (Removed n cause) else v)
removed_if v n cause true e = refl
removed_if v n cause false e = cc

dropped_right : (o : Options) (v : Server) (n : ℕ) (cause : Cause) → is_live v.registry n ≡ true → AllRight o v → AllRight o (dropped v n cause)
dropped_right o v n cause live right =
    subst (AllRight o) (removed_if (with_shape_event v n (Dropped cause)) n cause (is_live v.registry n) live)
    (removed_right o v n (Dropped cause) cause live (λ x at. next_drop o x (Dropped cause) (undropped o v.registry n x (live_unremoved v.registry n live) (right n x at))) right)

started_right : (o : Options) (v : Server) (n : ℕ) (x : Shape) (snap : Snapshot) (cause : Option Cause) → shape_at v.shapes n ≡ Some x → is_live v.registry n ≡ true → drop_of x.reader o.limits (x.events ++ Snapped snap ∷ []) ≡ cause → AllRight o v → AllRight o (started_by (with_shape_event v n (Snapped snap)) n cause)
started_right o v n x snap None at live is right = ready_right o v n (Snapped snap) live (λ y there. subst (λ z. drop_of z.reader o.limits (z.events ++ Snapped snap ∷ []) ≡ None) (some_same x y (sym at ∙ there)) is) right
started_right o v n x snap (Some cause) at live is right = removed_right o v n (Snapped snap) cause live (λ y there. subst (λ z. drop_of z.reader o.limits (z.events ++ Snapped snap ∷ []) ≡ Some cause) (some_same x y (sym at ∙ there)) is) right

-- ---- a commit: numbers below n are right, and of the others those that were removed

pub record Half (o : Options) (es : List RegistryEvent) (i n : ℕ) (x : Shape) : Type 0 where
  pub known : was_registered es n ≡ true
  pub done : n < i → cause_at es n ≡ drop_of x.reader o.limits x.events
  pub gone : i ≤ n → was_removed es n ≡ true → cause_at es n ≡ drop_of x.reader o.limits x.events

abbrev Pending : Options → Server → ℕ → Type 0
Pending o v i = (n : ℕ) (x : Shape) → shape_at v.shapes n ≡ Some x → Half o v.registry i n x

same_removed : (es : List RegistryEvent) (e : RegistryEvent) (n : ℕ) → was_removed (e ∷ []) n ≡ false → was_removed (es ++ e ∷ []) n ≡ true → was_removed es n ≡ true
same_removed es e n none h = pick (was_removed es n) (was_removed (e ∷ []) n) (sym (was_removed-append es (e ∷ []) n) ∙ h) none
  where
    pick : (a b : Bool) → (a || b) ≡ true → b ≡ false → a ≡ true
    pick true b h e = refl
    pick false b h e = cc

half_stays : (o : Options) (es : List RegistryEvent) (e : RegistryEvent) (i n : ℕ) (x : Shape) → removal_in e ≡ None → was_removed (e ∷ []) n ≡ false → Half o es i n x → Half o (es ++ e ∷ []) i n x
half_stays o es e i n x none quiet h = record {
  known = still_known es (e ∷ []) n h.known;
  done = λ lt. cause_stays es e n none ∙ h.done lt;
  gone = λ le was. cause_stays es e n none ∙ h.gone le (same_removed es e n quiet was);
}

half_other : (o : Options) (es : List RegistryEvent) (i n m : ℕ) (cause : Cause) (x : Shape) → (n == m) ≡ false → Half o es i m x → Half o (es ++ Removed n cause ∷ []) i m x
half_other o es i n m cause x other h = record {
  known = still_known es (Removed n cause ∷ []) m h.known;
  done = λ lt. cause_other es n m cause other ∙ h.done lt;
  gone = λ le was. cause_other es n m cause other ∙ h.gone le (same_removed es (Removed n cause) m (ap (λ b. b || false) other) was);
}

-- the next number, once the one in between is right
half_next : (o : Options) (es : List RegistryEvent) (i n : ℕ) (x : Shape) → (i ≡ n → cause_at es n ≡ drop_of x.reader o.limits x.events) → Half o es i n x → Half o es (i + 1) n x
half_next o es i n x here h = record {
  known = h.known;
  done = λ lt. by_number i n here (λ other. let differs = apart i n other in h.done (less i n lt differs));
  gone = λ le was. h.gone (omega (arith, le)) was;
}
  where
    less : (i n : ℕ) → n < i + 1 → (i ≡ n → ⊥) → n < i
    less i n lt differs = elim (split i n lt) [ inl l ↦ l | inr e ↦ absurd (differs e) ]
      where
        split : (i n : ℕ) → n < i + 1 → (n < i) ⊎ (i ≡ n)
        split zero zero lt = inr refl
        split zero (suc n) lt = absurd (omega (arith, lt))
        split (suc i) zero lt = inl (omega arith)
        split (suc i) (suc n) lt = elim (split i n (omega (arith, lt))) [ inl l ↦ inl (omega (arith, l)) | inr e ↦ inr (ap suc e) ]

redefined_half : (o : Options) (v : Server) (i : ℕ) (d : Option TableDef) → Pending o v i → Pending o (redefined v d) i
redefined_half o v i None h = h
redefined_half o v i (Some d) h = λ n x at. half_stays o v.registry (Redefined d) i n x refl refl (h n x at)

redefined_shapes : (v : Server) (d : Option TableDef) → (redefined v d).shapes ≡ v.shapes
redefined_shapes v None = refl
redefined_shapes v (Some d) = refl

not_live : (a b : Bool) → a ≡ true → (a && not b) ≡ false → b ≡ true
not_live true true e h = refl
not_live true false e h = cc
not_live false b e h = cc

at_this : (o : Options) (es : List RegistryEvent) (n m : ℕ) (x y : Shape) (shapes : List Shape) → shape_at shapes n ≡ Some x → shape_at shapes m ≡ Some y → n ≡ m → cause_at es n ≡ drop_of x.reader o.limits x.events → cause_at es m ≡ drop_of y.reader o.limits y.events
at_this o es n m x y shapes at there same is =
    let z : x ≡ y = some_same x y (sym at ∙ ap (shape_at shapes) same ∙ there) in
    subst (λ k. cause_at es k ≡ drop_of y.reader o.limits y.events) same (subst (λ w. cause_at es n ≡ drop_of w.reader o.limits w.events) z is)

swept_one_if : (o : Options) (v : Server) (tx : Tx) (n : ℕ) (x : Shape) (cause : Cause) (b : Bool) → is_live v.registry n ≡ b → shape_at v.shapes n ≡ Some x → drop_of x.reader o.limits x.events ≡ Some cause → Pending o v n
    → Pending o (if b then redefined (with_registry v (Removed n cause)) (definition_by x.reader.knows tx cause) else v) (n + 1)
swept_one_if o v tx n x cause true live at is h =
    redefined_half o (with_registry v (Removed n cause)) (n + 1) (definition_by x.reader.knows tx cause)
    (λ m y there. by_number n m
    (λ same. record {
      known = subst (λ k. was_registered (v.registry ++ Removed n cause ∷ []) k ≡ true) same (still_known v.registry (Removed n cause ∷ []) n (h n x at).known);
      done = λ lt. at_this o (v.registry ++ Removed n cause ∷ []) n m x y v.shapes at there same (cause_now v.registry [] n cause (live_unremoved v.registry n live) ∙ sym is);
      gone = λ le was. absurd (omega (arith, le, same));
    })
    (λ other. half_next o (v.registry ++ Removed n cause ∷ []) n m y (λ same. absurd (apart n m other same)) (half_other o v.registry n n m cause y other (h m y there))))
swept_one_if o v tx n x cause false live at is h = λ m y there.
    let mine = h n x at in
    half_next o v.registry n m y (λ same. at_this o v.registry n m x y v.shapes at there same (mine.gone (omega arith) (not_live (was_registered v.registry n) (was_removed v.registry n) mine.known live))) (h m y there)

still_right : (o : Options) (es : List RegistryEvent) (n : ℕ) (x : Shape) (b : Bool) → was_removed es n ≡ b → drop_of x.reader o.limits x.events ≡ None → Half o es n n x → cause_at es n ≡ drop_of x.reader o.limits x.events
still_right o es n x true e none mine = mine.gone (omega arith) e
still_right o es n x false e none mine = unremoved es n e ∙ sym none

swept_one : (o : Options) (v : Server) (tx : Tx) (n : ℕ) (x : Shape) (cause : Option Cause) → drop_of x.reader o.limits x.events ≡ cause → shape_at v.shapes n ≡ Some x → Pending o v n → Pending o (removed_for v tx n x cause) (n + 1)
swept_one o v tx n x (Some cause) is at h = swept_one_if o v tx n x cause (is_live v.registry n) refl at is h
swept_one o v tx n x None is at h = λ m y there.
    let mine = h n x at in
    half_next o v.registry n m y (λ same. at_this o v.registry n m x y v.shapes at there same (still_right o v.registry n x (was_removed v.registry n) refl is mine)) (h m y there)

same_shapes_if : (v : Server) (n : ℕ) (cause : Cause) (d : Option TableDef) (b : Bool) → (if b then redefined (with_registry v (Removed n cause)) d else v).shapes ≡ v.shapes
same_shapes_if v n cause d true = redefined_shapes (with_registry v (Removed n cause)) d
same_shapes_if v n cause d false = refl

same_shapes : (v : Server) (tx : Tx) (n : ℕ) (x : Shape) (cause : Option Cause) → (removed_for v tx n x cause).shapes ≡ v.shapes
same_shapes v tx n x None = refl
same_shapes v tx n x (Some cause) = same_shapes_if v n cause (definition_by x.reader.knows tx cause) (is_live v.registry n)

order : (m n : ℕ) → (m < n) ⊎ ((j : ℕ) × (n + j ≡ m))
order m zero = inr (m, omega arith)
order zero (suc n) = inl (omega arith)
order (suc m) (suc n) = elim (order m n) [ inl lt ↦ inl (omega (arith, lt)) | inr past ↦ inr (past.0, (let e = past.1 in omega (arith, e))) ]

below : (v : Server) (n m : ℕ) (x : Shape) → ((j : ℕ) → shape_at v.shapes (n + j) ≡ None) → shape_at v.shapes m ≡ Some x → m < n
below v n m x none at = elim (order m n) [ inl lt ↦ lt | inr past ↦ absurd (none_some x (sym (none past.0) ∙ ap (shape_at v.shapes) past.1 ∙ at)) ]

swept_right : (o : Options) (tx : Tx) (n : ℕ) (xs : List Shape) (v : Server) → ((j : ℕ) → shape_at v.shapes (n + j) ≡ slice_get xs j) → Pending o v n → AllRight o (swept_from o tx n xs v)
swept_right o tx n [] v line h = λ m x at. record { known = (h m x at).known; same = (h m x at).done (below v n m x line at) }
swept_right o tx n (x ∷ xs) v line h =
    let cause = drop_of x.reader o.limits x.events in
    let at : shape_at v.shapes n ≡ Some x = ap (shape_at v.shapes) (let e : n ≡ n + 0 = omega arith in e) ∙ line 0 in
    swept_right o tx (n + 1) xs (removed_for v tx n x cause)
    (λ j. ap (λ ys. shape_at ys ((n + 1) + j)) (same_shapes v tx n x cause) ∙ ap (shape_at v.shapes) (let e : (n + 1) + j ≡ n + suc j = omega arith in e) ∙ line (suc j))
    (swept_one o v tx n x cause refl at h)

both : (b : Bool) → b ≡ true → b ≡ false → ⊥
both true e h = cc
both false e h = cc

took_half_if : (o : Options) (v : Server) (tx : Tx) (n others : ℕ) (x : Shape) (b : Bool) → 1 ≤ n → was_removed v.registry n ≡ b → IsRight o v.registry n x → Half o (v.registry ++ Took tx.lsn tx.xid ∷ []) 1 n (if b then x else with_event (shapes.Took tx others) x)
took_half_if o v tx n others x true some was is = record { known = still_known v.registry (Took tx.lsn tx.xid ∷ []) n is.known; done = λ lt. cause_stays v.registry (Took tx.lsn tx.xid) n refl ∙ is.same; gone = λ le now. cause_stays v.registry (Took tx.lsn tx.xid) n refl ∙ is.same }
took_half_if o v tx n others x false some was is = record {
  known = still_known v.registry (Took tx.lsn tx.xid ∷ []) n is.known;
  done = λ lt. absurd (omega (arith, lt, some));
  gone = λ le now. absurd (both (was_removed v.registry n) (same_removed v.registry (Took tx.lsn tx.xid) n refl now) was);
}

some_at : (xs : List Shape) (n : ℕ) (x : Shape) → shape_at xs n ≡ Some x → 1 ≤ n
some_at xs zero x at = cc
some_at xs (suc n) x at = omega arith

took_pending : (o : Options) (v : Server) (tx : Tx) → AllRight o v → Pending o (with_commit o v tx) 1
took_pending o v tx right n y at =
    let r = at_received_back o v.registry tx v.shapes n y at in
    subst (Half o (v.registry ++ Took tx.lsn tx.xid ∷ []) 1 n) (sym r.is) (took_half_if o v tx n r.others r.was (was_removed v.registry n) (some_at v.shapes n r.was r.there) refl (right n r.was r.there))

first_place : (xs : List Shape) (j : ℕ) → shape_at xs (1 + j) ≡ slice_get xs j
first_place xs j = ap (shape_at xs) (let e : 1 + j ≡ suc j = omega arith in e)

committed_right : (o : Options) (v : Server) (tx : Tx) → AllRight o v → AllRight o (after_commit o v tx)
committed_right o v tx right = swept_right o tx 1 (with_commit o v tx).shapes (with_commit o v tx) (first_place (with_commit o v tx).shapes) (took_pending o v tx right)

-- ---- whole runs

record Found (o : Options) (es : List RegistryEvent) (ask : Ask) (reader : Reader) : Type 0 where
  definition : TableDef
  at : definition_after o.catalog es ask.table ≡ Some definition
  reads : reader_under o ask definition ≡ Some reader

found_of : (o : Options) (es : List RegistryEvent) (ask : Ask) (reader : Reader) (d : Option TableDef) → definition_after o.catalog es ask.table ≡ d → option_and_then (reader_under o ask) d ≡ Some reader → Found o es ask reader
found_of o es ask reader None e h = cc
found_of o es ask reader (Some d) e h = record { definition = d; at = e; reads = h }

registered_sound : (o : Options) (v : Server) (ask : Ask) (reader : Reader) → reader_for o v.registry ask ≡ Some reader → live_under v.registry ask.identity ≡ None → HasRoom o.limits.shapes v.registry → Sound o v → Sound o (with_shape v ask reader)
registered_sound o v ask reader reads free room sound =
    let f = found_of o v.registry ask reader (definition_after o.catalog v.registry ask.table) refl reads in
    let placed : f.definition.table ≡ ask.table = subst (λ found. IfSome found (λ x. x.table ≡ ask.table)) f.at (catalog_placed o.catalog v.registry sound.start.placed ask.table) in
    (registers o v ask reader f.definition placed f.reads free room).sound sound

kept : (o : Options) → Kept o (AreRight o)
kept o = record {
  registers = λ v ask reader reads free room p. record { sound = registered_sound o v ask reader reads free room p.sound; right = registered_right o v ask reader p.sound p.right };
  drops = λ v n cause live p. record { sound = (drops o v n cause).sound p.sound; right = dropped_right o v n cause live p.right };
  redefines = λ v d p. record { sound = (redefines_some o v d).sound p.sound; right = redefined_right o v d p.right };
  starts = λ v n x snap at starting none good p. record { sound = (starts o v n x snap at starting none good).sound p.sound; right = started_right o v n x snap (drop_of x.reader o.limits (x.events ++ Snapped snap ∷ [])) at (live_from_starting v.registry n starting) refl p.right };
  commits = λ v tx rises p. record { sound = (commit_better o v tx rises).sound p.sound; right = committed_right o v tx p.right };
}

nothing_at : {P : Type 0} (n : ℕ) (x : Shape) → shape_at [] n ≡ Some x → P
nothing_at zero x h = cc
nothing_at (suc n) x h = cc

pub drops_exactly : DropsExactly
drops_exactly o es start number x at = ((always o (AreRight o) (kept o) es (record { sound = sound_start o start; right = λ n x h. nothing_at n x h })).right number x at).same
