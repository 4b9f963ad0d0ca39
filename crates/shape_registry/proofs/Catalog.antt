-- A catalogue keeps each definition in its table's place.
use Rattle.std.proofs.Common.{◌≡◌, ℕ, zero, suc, List, [], ◌∷◌, Some, refl, sym, ap, subst, ◌⊎◌, inl, inr}
use Rattle.std.specs.Prelude.{IfSome, slice_get, slice_set}
use Rattle.shape_base.specs.declared.definition.TableDef.{TableDef}
use Rattle.shape_base.specs.declared.registry_event.RegistryEvent.{RegistryEvent}
use Rattle.shape_base.specs.RegistryHistory.{redefinitions, redefined, catalog_after}
use Rattle.shape_registry.specs.Registry.{ArePlaced}

-- what stands in a place after a write: what stood there, or the new item
pub after_set : {A : Type 0} (xs : List A) (i j : ℕ) (x : A) → (slice_get (slice_set xs i x) j ≡ slice_get xs j) ⊎ ((i ≡ j) × (slice_get (slice_set xs i x) j ≡ Some x))
after_set [] i j x = inl refl
after_set (y ∷ ys) zero zero x = inr (refl, refl)
after_set (y ∷ ys) zero (suc j) x = inl refl
after_set (y ∷ ys) (suc i) zero x = inl refl
after_set (y ∷ ys) (suc i) (suc j) x = elim (after_set ys i j x) [
  | inl same ↦ inl same
  | inr new ↦ inr (ap suc new.0, new.1)
]

placed_set : (defs : List TableDef) (d : TableDef) → ArePlaced defs → ArePlaced (slice_set defs d.table d)
placed_set defs d placed = λ place. elim (after_set defs d.table place d) [
  | inl same ↦ subst (λ o. IfSome o (λ d. d.table ≡ place)) (sym same) (placed place)
  | inr new ↦ subst (λ o. IfSome o (λ d. d.table ≡ place)) (sym new.1) new.0
]

placed_all : (defs news : List TableDef) → ArePlaced defs → ArePlaced (redefined defs news)
placed_all defs [] placed = placed
placed_all defs (d ∷ news) placed = placed_all (slice_set defs d.table d) news (placed_set defs d placed)

pub catalog_placed : (first : List TableDef) (es : List RegistryEvent) → ArePlaced first → ArePlaced (catalog_after first es)
catalog_placed first es placed = placed_all first (redefinitions es) placed
