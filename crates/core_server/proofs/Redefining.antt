-- A new definition in the catalogue.
use Rattle.std.proofs.Common.{◌≡◌, ℕ, zero, suc, ◌==◌, List, [], ◌∷◌, ◌++◌, length, refl, ap, sym, ◌∙◌, subst, arith, Option, Some, ◌⊎◌, inl, inr}
use Rattle.std.specs.Prelude.{IfSome, slice_set}
use Rattle.std.specs.List.{slice_get, list_any}
use Rattle.std.specs.FinMap as fin
use Rattle.shape_base.specs.declared.definition.TableDef.{TableDef}
use Rattle.shape_base.specs.declared.served.Served.{Served}
use Rattle.shape_base.specs.declared.registry_event.RegistryEvent.TheVariants.{Redefined}
use Rattle.shape_base.specs.RegistryHistory as histories
use Rattle.shape_base.specs.RegistryHistory.{registration_in, was_removed}
use Rattle.shape_registry.proofs.Growing.{part_stays}
use Rattle.shape_registry.proofs.Legal.{ready_stays, removed_stays}
use Rattle.shape_registry.proofs.Catalog.{after_set}
use Rattle.core_law.specs.Situation.{Options, Shape, shape_at, registry_start}
use Rattle.core_law.specs.Situation as law
use Rattle.core_law.specs.Steps.{with_registry}
use Rattle.core_server.specs.declared.server.Server.{Server}
use Rattle.core_server.specs.Standing.{StandsFor, HasFewColumns, IsCatalog, IsNew, Stands}
use Rattle.core_server.proofs.Changing.{stands_on}
use Rattle.core_server.proofs.Dropping.{same_last}

length_set : {A : Type 0} (xs : List A) (i : ℕ) (x : A) → length (slice_set xs i x) ≡ length xs
length_set [] i x = refl
length_set (y ∷ ys) zero x = refl
length_set (y ∷ ys) (suc i) x = ap (λ n. suc n) (length_set ys i x)

placed_or : (d : TableDef) (place : ℕ) (old new : Option TableDef) → (new ≡ old) ⊎ ((d.table ≡ place) × (new ≡ Some d)) → IfSome old (λ e. e.table ≡ place) → IfSome new (λ e. e.table ≡ place)
placed_or d place old new (inl e) h = subst (λ a. IfSome a (λ e. e.table ≡ place)) (sym e) h
placed_or d place old new (inr e) h = subst (λ a. IfSome a (λ e. e.table ≡ place)) (sym e.1) e.0

few_or : (d : TableDef) (place : ℕ) (old new : Option TableDef) → (new ≡ old) ⊎ ((d.table ≡ place) × (new ≡ Some d)) → HasFewColumns d → IfSome old HasFewColumns → IfSome new HasFewColumns
few_or d place old new (inl e) few h = subst (λ a. IfSome a HasFewColumns) (sym e) h
few_or d place old new (inr e) few h = subst (λ a. IfSome a HasFewColumns) (sym e.1) few

-- a catalogue with a new definition is one
pub catalog_with : (tables : List Served) (catalog : List TableDef) (d : TableDef) → IsCatalog tables catalog → IsNew tables d → IsCatalog tables (slice_set catalog d.table d)
catalog_with tables catalog d h new = record {
  served = length_set catalog d.table d ∙ h.served;
  placed = λ place. placed_or d place (slice_get catalog place) (slice_get (slice_set catalog d.table d) place) (after_set catalog d.table place d) (h.placed place);
  few = λ place. few_or d place (slice_get catalog place) (slice_get (slice_set catalog d.table d) place) (after_set catalog d.table place d) new.few (h.few place);
}

-- the server where the registry was redefined
pub record Redefines (o : Options) (v : law.Server) (s t : Server) (d : TableDef) : Type 0 where
  pub run : t.run ≡ s.run
  pub limits : t.limits ≡ s.limits
  pub tables : t.tables ≡ s.tables
  pub registry : histories.Stands (registry_start o) (v.registry ++ Redefined d ∷ []) t.registry.state
  pub catalog : t.registry.state.catalog ≡ slice_set s.registry.state.catalog d.table d
  pub kept : t.registry.kept ≡ s.registry.kept
  pub total : t.total ≡ s.total

pub redefines : (o : Options) (v : law.Server) (s t : Server) (d : TableDef) → Stands o v s → IsNew s.tables d → Redefines o v s t d → Stands o (with_registry v (Redefined d)) t
redefines o v s t d h new c = record {
  run = c.run ∙ h.run;
  limits = c.limits ∙ h.limits;
  tables = c.tables ∙ h.tables;
  registry = c.registry;
  catalog = subst (IsCatalog o.tables) (sym c.catalog) (catalog_with o.tables s.registry.state.catalog d h.catalog (subst (λ tables. IsNew tables d) h.tables new));
  counted = ap length (part_stays registration_in v.registry (Redefined d) refl) ∙ h.counted;
  known = λ m r. h.known m (sym (was_stays m) ∙ r);
  shapes = λ m x at. subst (StandsFor o (with_registry v (Redefined d)) t m x) (sym (removed_stays v.registry (Redefined d) m refl))
      (stands_on o v (with_registry v (Redefined d)) s t m x (was_removed v.registry m) (ready_stays v.registry (Redefined d) m refl) (let e = same_last v.registry (Redefined d) refl in omega (arith, e)) (ap (λ k. fin.get k m) c.kept) (h.shapes m x at));
  total = c.total ∙ h.total;
}
  where
    was_stays : (m : ℕ) → histories.was_registered (v.registry ++ Redefined d ∷ []) m ≡ histories.was_registered v.registry m
    was_stays m = ap (λ rs. list_any (λ (r : histories.Registration). r.number == m) rs) (part_stays registration_in v.registry (Redefined d) refl)
