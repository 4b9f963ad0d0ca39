-- The catalogue of declared tables.
use Rattle.std.proofs.Common.{◌≡◌, ℕ, zero, suc, ◌+◌, List, [], ◌∷◌, length, refl, sym, ap, subst, ◌∙◌, arith}
use Rattle.std.specs.Prelude.{IfSome, slice_get}
use Rattle.std.specs.List.{AllByRecursion}
use Rattle.shape_base.specs.declared.definition.TableDef.{TableDef}
use Rattle.shape_base.specs.declared.served.Served.{Served}
use Rattle.core_server.specs.Standing as server
use Rattle.core_server.specs.Standing.{IsCatalog}
use Rattle.script.specs.declared.table.Declaration.{Declaration}
use Rattle.script_play.specs.Tables.{AreServed, catalog_of, HasFewColumns}
use Rattle.script_play.proofs.Keys.{served_alike}

catalog_length : (place : ℕ) (ds : List Declaration) → length (catalog_of place ds) ≡ length ds
catalog_length place [] = refl
catalog_length place (d ∷ ds) = ap suc (catalog_length (place + 1) ds)

-- each definition is of the table in its place, counted from the first one's
pub placed_from : (place : ℕ) (ds : List Declaration) (i : ℕ) → IfSome (slice_get (catalog_of place ds) i) (λ d. d.table ≡ place + i)
placed_from place [] i = tt
placed_from place (d ∷ ds) zero = omega arith
placed_from place (d ∷ ds) (suc i) = subst (λ (n : ℕ). IfSome (slice_get (catalog_of (place + 1) ds) i) (λ d. d.table ≡ n)) (omega arith) (placed_from (place + 1) ds i)

few_from : (place : ℕ) (ds : List Declaration) (i : ℕ) → AllByRecursion HasFewColumns ds → IfSome (slice_get (catalog_of place ds) i) server.HasFewColumns
few_from place [] i h = tt
few_from place (d ∷ ds) zero h = h.0
few_from place (d ∷ ds) (suc i) h = few_from (place + 1) ds i h.1

pub catalog_is : (ds : List Declaration) (ss : List Served) (defs : List TableDef) → AreServed ds ss → defs ≡ catalog_of 0 ds → AllByRecursion HasFewColumns ds → IsCatalog ss defs
catalog_is ds ss defs served is few = subst (λ (ts : List TableDef). IsCatalog ss ts) (sym is) (record {
  served = catalog_length 0 ds ∙ served_alike ds ss served;
  placed = λ place. subst (λ (n : ℕ). IfSome (slice_get (catalog_of 0 ds) place) (λ d. d.table ≡ n)) (omega arith) (placed_from 0 ds place);
  few = λ place. few_from 0 ds place few;
})
