use Rattle.std.proofs.Common.{◌≡◌, map, take}
use Rattle.shape_base.specs.Shape.{cell_at}
use Rattle.shape_model.proofs.keyed.cells_at.Given as goal

abbrev pub invariant-loop-place : goal.invariant-loop-place
invariant-loop-place l = l.cells ≡ map (cell_at l.definition l.row) (take l.place-index l.order)
