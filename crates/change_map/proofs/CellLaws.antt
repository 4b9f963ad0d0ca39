-- Cells of two rows.
use Rattle.std.proofs.Common.{◌≡◌, ℕ, refl}
use Rattle.std.specs.List.{slice_index_or}
use Rattle.shape_base.specs.declared.definition.TableDef.{TableDef}
use Rattle.shape_base.specs.declared.value.Value.TheVariants.{Null}
use Rattle.shape_base.specs.Tables.{Values, same_value}
use Rattle.shape_base.specs.Shape.{name_at, cell_at, same_cell}
use Rattle.shape_base.proofs.Lemmas.{Decides-same_text}

-- cells at one place have one name
pub same_cells_at : (d : TableDef) (old new : Values) (p : ℕ) → same_value (slice_index_or old p Null) (slice_index_or new p Null) ≡ same_cell (cell_at d old p) (cell_at d new p)
same_cells_at d old new p = rw ((Decides-same_text (name_at d p) (name_at d p)).1 refl) refl
