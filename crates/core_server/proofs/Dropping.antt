-- A number that is dropped from outside.
use Rattle.std.proofs.Common.{◌≡◌, ℕ, ◌-◌, Bool, true, false, not, ◌||◌, ◌==◌, List, [], ◌∷◌, ◌++◌, refl, ap, sym, ◌∙◌, subst, arith, Option, None, Some}
use Rattle.std.specs.Bool.{if◌then◌else◌}
use Rattle.std.specs.Prelude.{is_some, IsSomeAnd, unwrap_or}
use Rattle.std.specs.Option.{option_map}
use Rattle.std.specs.List.{last_or}
use Rattle.std.specs.FinMap as fin
use Rattle.std.proofs.lemmas.Bool.{and_parts}
use Rattle.std.proofs.lemmas.Bool.Decides.{Decides-eqb}
use Rattle.shape_base.specs.declared.cause.Cause.{Cause}
use Rattle.shape_base.specs.declared.limits.Limits.{Limits}
use Rattle.shape_base.specs.declared.registry_event.RegistryEvent.{RegistryEvent}
use Rattle.shape_base.specs.declared.registry_event.RegistryEvent.TheVariants.{Removed}
use Rattle.shape_base.specs.RegistryHistory as histories
use Rattle.shape_base.specs.RegistryHistory.{Taken, registration_in, removal_in, ready_in, transaction_in, was_registered, was_removed, had_ready, is_live, last_lsn}
use Rattle.shape_base.proofs.Lemmas.{was_removed-append}
use Rattle.shape_json.specs.ShapeHistory.{Reader, ShapeEvent, Dropped, or_else, drop_of, state_after}
use Rattle.shape_json.proofs.Histories.{drop_next}
use Rattle.shape_registry.proofs.Growing.{part_stays}
use Rattle.shape_registry.proofs.Legal.{ready_stays}
use Rattle.shape_state.specs.Standing as shape
use Rattle.shape_state.specs.Answers.{log_bytes}
use Rattle.core_law.specs.Situation.{Options, Shape, shape_at, registry_start}
use Rattle.core_law.specs.Situation as law
use Rattle.core_law.specs.Steps.{with_event, change_shape, with_registry, with_shape_event, dropped, bytes_kept, all_bytes}
use Rattle.core_server.specs.declared.server.Server.{Server}
use Rattle.core_server.specs.Standing.{Kept, reader_in, IsKept, StandsFor, IsCatalog, Stands}
use Rattle.core_server.proofs.Places.{shape_none}
use Rattle.core_server.proofs.Maps.{removed_apart}
use Rattle.core_server.proofs.Sums.{log_bytes_is, no_bytes, bytes_changed}
use Rattle.core_server.proofs.Changing.{Changes, stands_changed}

-- ---- small facts

pub some_or_none : {A : Type 0} (a : Option A) {P : Type 0} → ((x : A) → a ≡ Some x → P) → (a ≡ None → P) → P
some_or_none None go stay = stay refl
some_or_none (Some x) go stay = go x refl

pub some_of : {A : Type 0} (a : Option A) {P : Type 0} → is_some a ≡ true → ((x : A) → a ≡ Some x → P) → P
some_of None h go = cc
some_of (Some x) h go = go x refl

pub either_way : (b : Bool) {P : Type 0} → (b ≡ true → P) → (b ≡ false → P) → P
either_way true go stay = go refl
either_way false go stay = stay refl

pub not_true : (b : Bool) → not b ≡ true → b ≡ false
not_true true h = cc
not_true false h = refl

pub or_false : (a : Bool) → (a || false) ≡ a
or_false true = refl
or_false false = refl

or_true : (a : Bool) → (a || true) ≡ true
or_true true = refl
or_true false = refl

-- ---- the registry's history with one event more

pub removed_here : (es : List RegistryEvent) (n : ℕ) (cause : Cause) → was_removed (es ++ Removed n cause ∷ []) n ≡ true
removed_here es n cause = was_removed-append es (Removed n cause ∷ []) n ∙ ap (λ b. was_removed es n || (b || false)) ((Decides-eqb n n).1 refl) ∙ or_true (was_removed es n)

other_number : (n m : ℕ) (b : Bool) → (n == m) ≡ b → (n ≡ m → ⊥) → b ≡ false
other_number n m true e h = absurd (h ((Decides-eqb n m).0 e))
other_number n m false e h = refl

pub removed_apart_from : (es : List RegistryEvent) (n m : ℕ) (cause : Cause) → (n ≡ m → ⊥) → was_removed (es ++ Removed n cause ∷ []) m ≡ was_removed es m
removed_apart_from es n m cause h = was_removed-append es (Removed n cause ∷ []) m ∙ ap (λ b. was_removed es m || (b || false)) (other_number n m (n == m) refl h) ∙ or_false (was_removed es m)

pub same_last : (es : List RegistryEvent) (e : RegistryEvent) → transaction_in e ≡ None → last_lsn (es ++ e ∷ []) ≡ last_lsn es
same_last es e none = ap (λ (ts : List Taken). unwrap_or (option_map (λ (t : Taken). t.lsn) (last_or None ts)) 0) (part_stays transaction_in es e none)

-- ---- one shape

some_later : (a : Option Cause) (cause : Cause) → is_some (or_else a (Some cause)) ≡ true
some_later None cause = refl
some_later (Some c) cause = refl

-- a shape that is dropped from outside is dropped
pub is_dropped : (r : Reader) (l : Limits) (events : List ShapeEvent) (cause : Cause) → is_some (drop_of r l (events ++ Dropped cause ∷ [])) ≡ true
is_dropped r l events cause = ap is_some (drop_next r l events (Dropped cause)) ∙ some_later (drop_of r l events) cause

-- what a shape says of its bytes
abbrev pub Tells : Kept → ℕ → Type 0
Tells k b = (events : List ShapeEvent) → shape.Stands (reader_in k) k.state events → b ≡ log_bytes (state_after (reader_in k) k.state.limits events)

pub kept_bytes : (o : Options) (v : law.Server) (n : ℕ) (x : Shape) (k : Kept) (b : ℕ) → IsKept o v n x k → Tells k b → b ≡ bytes_kept o x
kept_bytes o v n x k b h tells = tells x.events (subst (λ r. shape.Stands r k.state x.events) h.reader h.stands)
    ∙ ap (λ r. log_bytes (state_after r k.state.limits x.events)) (sym h.reader)
    ∙ ap (λ l. log_bytes (state_after x.reader l x.events)) h.limits
    ∙ log_bytes_is (state_after x.reader o.limits x.events)

-- ---- the shape of a live number

pub record Live (o : Options) (v : law.Server) (s : Server) (n : ℕ) (k : Kept) : Type 0 where
  pub shape : Shape
  pub at : shape_at v.shapes n ≡ Some shape
  pub kept : IsKept o v n shape k

kept_some : (o : Options) (v : law.Server) (s : Server) (n : ℕ) (x : Shape) (k : Kept) (b : Bool) → b ≡ false → fin.get s.registry.kept n ≡ Some k → StandsFor o v s n x b → IsKept o v n x k
kept_some o v s n x k true e there h = cc
kept_some o v s n x k false e there h = subst (λ a. IsSomeAnd a (IsKept o v n x)) there h

-- what is kept for a live number stands for its shape
pub live_shape : (o : Options) (v : law.Server) (s : Server) (n : ℕ) (k : Kept) → Stands o v s → is_live v.registry n ≡ true → fin.get s.registry.kept n ≡ Some k → Live o v s n k
live_shape o v s n k h live there =
    let p = and_parts (was_registered v.registry n) (not (was_removed v.registry n)) live in
    some_of (shape_at v.shapes n) (h.known n p.0) (λ x at. record {
      shape = x;
      at = at;
      kept = kept_some o v s n x k (was_removed v.registry n) (not_true (was_removed v.registry n) p.1) there (h.shapes n x at);
    })

gone_none : (o : Options) (v : law.Server) (s : Server) (n : ℕ) (x : Shape) (b : Bool) → fin.get s.registry.kept n ≡ None → StandsFor o v s n x b → is_some (drop_of x.reader o.limits x.events) ≡ true
gone_none o v s n x true none h = h
gone_none o v s n x false none h = absurd (subst (λ a. IsSomeAnd a (IsKept o v n x)) none h)

-- the shape of a number for which nothing is kept is dropped
pub gone_shape : (o : Options) (v : law.Server) (s : Server) (n : ℕ) (x : Shape) → Stands o v s → fin.get s.registry.kept n ≡ None → shape_at v.shapes n ≡ Some x → is_some (drop_of x.reader o.limits x.events) ≡ true
gone_shape o v s n x h none at = gone_none o v s n x (was_removed v.registry n) none (h.shapes n x at)

pub here_removed : (o : Options) (w : law.Server) (t : Server) (n : ℕ) (x : Shape) (b : Bool) → b ≡ true → is_some (drop_of x.reader o.limits x.events) ≡ true → StandsFor o w t n x b
here_removed o w t n x true e h = h
here_removed o w t n x false e h = cc

-- ---- a number that is not live

module _ (o : Options) (v : law.Server) (s : Server) (n : ℕ) (cause : Cause) (h : Stands o v s) (none : fin.get s.registry.kept n ≡ None) where
  same_sum : all_bytes o v.shapes ≡ all_bytes o (change_shape (with_event (Dropped cause)) v.shapes n)
  same_sum = some_or_none (shape_at v.shapes n)
      (λ x at. let e = bytes_changed o (with_event (Dropped cause)) v.shapes n x at in let a = no_bytes o x (gone_shape o v s n x h none at) in let b = no_bytes o (with_event (Dropped cause) x) (is_dropped x.reader o.limits x.events cause) in omega (arith, e, a, b))
      (λ nowhere. ap (all_bytes o) (sym (shape_none (with_event (Dropped cause)) v.shapes n nowhere)))

  here_if : (x : Shape) (b : Bool) → fin.get s.registry.kept n ≡ None → StandsFor o v s n x b → StandsFor o (with_shape_event v n (Dropped cause)) s n (with_event (Dropped cause) x) b
  here_if x true none f = is_dropped x.reader o.limits x.events cause
  here_if x false none f = absurd (subst (λ a. IsSomeAnd a (IsKept o v n x)) none f)

  dropped_none : Changes o v (with_shape_event v n (Dropped cause)) s s n (with_event (Dropped cause))
  dropped_none = record {
    run = refl;
    limits = refl;
    tables = refl;
    registry = h.registry;
    catalog = h.catalog;
    registered = refl;
    shapes = refl;
    removed = λ m other. refl;
    ready = λ m other. refl;
    last = omega arith;
    kept = λ m other. refl;
    here = λ x at. here_if x (was_removed v.registry n) none (h.shapes n x at);
    total = h.total ∙ same_sum;
  }

  pub drops_none : is_live v.registry n ≡ false → Stands o (dropped v n cause) s
  drops_none dead = subst (λ (b : Bool). Stands o (if b then with_registry (with_shape_event v n (Dropped cause)) (Removed n cause) else with_shape_event v n (Dropped cause)) s) (sym dead)
      (stands_changed o v (with_shape_event v n (Dropped cause)) s s n (with_event (Dropped cause)) dropped_none h)

-- ---- a live number

-- the server where a number is removed whose log had so many bytes
pub record Removes (o : Options) (v : law.Server) (s t : Server) (n : ℕ) (cause : Cause) (bytes : ℕ) : Type 0 where
  pub run : t.run ≡ s.run
  pub limits : t.limits ≡ s.limits
  pub tables : t.tables ≡ s.tables
  pub registry : histories.Stands (registry_start o) (v.registry ++ Removed n cause ∷ []) t.registry.state
  pub catalog : t.registry.state.catalog ≡ s.registry.state.catalog
  pub kept : t.registry.kept ≡ fin.remove s.registry.kept n
  pub total : t.total ≡ s.total - bytes

module _ (o : Options) (v : law.Server) (s t : Server) (n : ℕ) (cause : Cause) (bytes : ℕ) (h : Stands o v s) (c : Removes o v s t n cause bytes) where
  removes_sum : (x : Shape) → shape_at v.shapes n ≡ Some x → bytes ≡ bytes_kept o x → t.total ≡ all_bytes o (change_shape (with_event (Dropped cause)) v.shapes n)
  removes_sum x at is = let e = bytes_changed o (with_event (Dropped cause)) v.shapes n x at in let b = no_bytes o (with_event (Dropped cause) x) (is_dropped x.reader o.limits x.events cause) in
      let a = h.total in let d = c.total in omega (arith, e, b, a, d, is)

  removes : (x : Shape) → shape_at v.shapes n ≡ Some x → bytes ≡ bytes_kept o x → Changes o v (with_registry (with_shape_event v n (Dropped cause)) (Removed n cause)) s t n (with_event (Dropped cause))
  removes x at is = record {
    run = c.run;
    limits = c.limits;
    tables = c.tables;
    registry = c.registry;
    catalog = subst (IsCatalog o.tables) (sym c.catalog) h.catalog;
    registered = part_stays registration_in v.registry (Removed n cause) refl;
    shapes = refl;
    removed = λ m other. removed_apart_from v.registry n m cause other;
    ready = λ m other. ready_stays v.registry (Removed n cause) m refl;
    last = let e = same_last v.registry (Removed n cause) refl in omega (arith, e);
    kept = λ m other. ap (λ k. fin.get k m) c.kept ∙ removed_apart s.registry.kept n m other;
    here = λ y there. here_removed o _ t n (with_event (Dropped cause) y) _ (removed_here v.registry n cause) (is_dropped y.reader o.limits y.events cause);
    total = removes_sum x at is;
  }

  pub drops_some : (k : Kept) → is_live v.registry n ≡ true → fin.get s.registry.kept n ≡ Some k → Tells k bytes → Stands o (dropped v n cause) t
  drops_some k live there tells =
      let l = live_shape o v s n k h live there in
      subst (λ (b : Bool). Stands o (if b then with_registry (with_shape_event v n (Dropped cause)) (Removed n cause) else with_shape_event v n (Dropped cause)) t) (sym live)
      (stands_changed o v (with_registry (with_shape_event v n (Dropped cause)) (Removed n cause)) s t n (with_event (Dropped cause)) (removes l.shape l.at (kept_bytes o v n l.shape k bytes l.kept tells)) h)
