-- What a server stands for where one number and its shape change.
use Rattle.std.proofs.Common.{◌≡◌, ℕ, ◌≤◌, Bool, true, false, ◌==◌, length, refl, ap, sym, ◌∙◌, subst, arith, Option, None, Some}
use Rattle.std.specs.Prelude.{is_some, IsSomeAnd}
use Rattle.std.specs.List.{list_any}
use Rattle.std.specs.Option.{option_map}
use Rattle.std.specs.FinMap as fin
use Rattle.shape_base.specs.RegistryHistory as histories
use Rattle.shape_base.specs.RegistryHistory.{Registration, registrations, was_registered, was_removed, had_ready}
use Rattle.core_law.specs.Situation.{Options, Shape, shape_at, registry_start}
use Rattle.core_law.specs.Situation as law
use Rattle.core_law.specs.Steps.{change_shape, all_bytes}
use Rattle.core_server.specs.declared.server.Server.{Server}
use Rattle.core_server.specs.Standing.{Kept, IsKept, StandsFor, IsCatalog, Stands}
use Rattle.core_server.proofs.Places.{shape_here, shape_apart, length_shapes, same_or_not}

-- what the change of one number and its shape leaves as it was
pub record Changes (o : Options) (v w : law.Server) (s t : Server) (n : ℕ) (f : Shape → Shape) : Type 0 where
  pub run : t.run ≡ s.run
  pub limits : t.limits ≡ s.limits
  pub tables : t.tables ≡ s.tables
  pub registry : histories.Stands (registry_start o) w.registry t.registry.state
  pub catalog : IsCatalog o.tables t.registry.state.catalog
  pub registered : registrations w.registry ≡ registrations v.registry
  pub shapes : w.shapes ≡ change_shape f v.shapes n
  pub removed : (m : ℕ) → (n ≡ m → ⊥) → was_removed w.registry m ≡ was_removed v.registry m
  pub ready : (m : ℕ) → (n ≡ m → ⊥) → had_ready w.registry m ≡ had_ready v.registry m
  pub last : histories.last_lsn v.registry ≤ histories.last_lsn w.registry
  pub kept : (m : ℕ) → (n ≡ m → ⊥) → fin.get t.registry.kept m ≡ fin.get s.registry.kept m
  pub here : (x : Shape) → shape_at v.shapes n ≡ Some x → StandsFor o w t n (f x) (was_removed w.registry n)
  pub total : t.total ≡ all_bytes o w.shapes

-- a shape is kept as it was
kept_on : (o : Options) (v w : law.Server) (m : ℕ) (x : Shape) (k : Kept) → had_ready w.registry m ≡ had_ready v.registry m → histories.last_lsn v.registry ≤ histories.last_lsn w.registry → IsKept o v m x k → IsKept o w m x k
kept_on o v w m x k ready last h = record {
  reader = h.reader;
  limits = h.limits;
  stands = h.stands;
  lives = h.lives;
  ready = h.ready ∙ sym ready;
  last = let a = h.last in omega (arith, a, last);
}

kept_and : (o : Options) (v w : law.Server) (m : ℕ) (x : Shape) (k : Option Kept) → had_ready w.registry m ≡ had_ready v.registry m → histories.last_lsn v.registry ≤ histories.last_lsn w.registry → IsSomeAnd k (IsKept o v m x) → IsSomeAnd k (IsKept o w m x)
kept_and o v w m x None ready last h = h
kept_and o v w m x (Some k) ready last h = kept_on o v w m x k ready last h

pub stands_on : (o : Options) (v w : law.Server) (s t : Server) (m : ℕ) (x : Shape) (b : Bool) → had_ready w.registry m ≡ had_ready v.registry m → histories.last_lsn v.registry ≤ histories.last_lsn w.registry → fin.get t.registry.kept m ≡ fin.get s.registry.kept m
    → StandsFor o v s m x b → StandsFor o w t m x b
stands_on o v w s t m x true ready last kept h = h
stands_on o v w s t m x false ready last kept h = subst (λ k. IsSomeAnd k (IsKept o w m x)) (sym kept) (kept_and o v w m x (fin.get s.registry.kept m) ready last h)

mapped : (f : Shape → Shape) (a : Option Shape) (y : Shape) {P : Type 0} → option_map f a ≡ Some y → ((x : Shape) → a ≡ Some x → f x ≡ y → P) → P
mapped f None y e go = cc
mapped f (Some x) y e go = go x refl cc

is_some_map : (f : Shape → Shape) (a : Option Shape) → is_some (option_map f a) ≡ is_some a
is_some_map f None = refl
is_some_map f (Some x) = refl

module _ (o : Options) (v w : law.Server) (s t : Server) (n : ℕ) (f : Shape → Shape) (c : Changes o v w s t n f) (h : Stands o v s) where
  some_stays : (m : ℕ) → is_some (shape_at w.shapes m) ≡ is_some (shape_at v.shapes m)
  some_stays m = same_or_not n m
      (λ e. subst (λ m. is_some (shape_at w.shapes m) ≡ is_some (shape_at v.shapes m)) e (ap (λ xs. is_some (shape_at xs n)) c.shapes ∙ ap is_some (shape_here f v.shapes n) ∙ is_some_map f (shape_at v.shapes n)))
      (λ other. ap (λ xs. is_some (shape_at xs m)) c.shapes ∙ ap is_some (shape_apart f v.shapes n m other))

  stands_here : (y : Shape) → shape_at w.shapes n ≡ Some y → StandsFor o w t n y (was_removed w.registry n)
  stands_here y at = mapped f (shape_at v.shapes n) y (sym (shape_here f v.shapes n) ∙ ap (λ xs. shape_at xs n) (sym c.shapes) ∙ at)
      (λ x there e. subst (λ z. StandsFor o w t n z (was_removed w.registry n)) e (c.here x there))

  stands_apart : (m : ℕ) (y : Shape) → (n ≡ m → ⊥) → shape_at w.shapes m ≡ Some y → StandsFor o w t m y (was_removed w.registry m)
  stands_apart m y other at = subst (StandsFor o w t m y) (sym (c.removed m other))
      (stands_on o v w s t m y (was_removed v.registry m) (c.ready m other) c.last (c.kept m other) (h.shapes m y (sym (shape_apart f v.shapes n m other) ∙ ap (λ xs. shape_at xs m) (sym c.shapes) ∙ at)))

  -- the server stands for the situation in which they have changed
  pub stands_changed : Stands o w t
  stands_changed = record {
    run = c.run ∙ h.run;
    limits = c.limits ∙ h.limits;
    tables = c.tables ∙ h.tables;
    registry = c.registry;
    catalog = c.catalog;
    counted = ap length c.registered ∙ h.counted ∙ sym (ap length c.shapes ∙ length_shapes f v.shapes n);
    known = λ m r. some_stays m ∙ h.known m (sym (ap (λ rs. list_any (λ (r : Registration). r.number == m) rs) c.registered) ∙ r);
    shapes = λ m y at. same_or_not n m
        (λ e. subst (λ m. shape_at w.shapes m ≡ Some y → StandsFor o w t m y (was_removed w.registry m)) e (stands_here y) at)
        (λ other. stands_apart m y other at);
    total = c.total;
  }
