use Rattle.std.proofs.Common.{◌≡◌, ◌++◌, map, drop}
use Rattle.shape_base.specs.Shape.{cell_at, differing}
use Rattle.change_map.proofs.cells.cells_that_differ.Given as goal

-- what is left gives the rest of the cells
abbrev pub invariant-loop-place : goal.invariant-loop-place
invariant-loop-place l = differing (map (cell_at l.definition l.old) l.order) (map (cell_at l.definition l.new) l.order) ≡ l.cells.items ++ differing (map (cell_at l.definition l.old) (drop l.place-index l.order)) (map (cell_at l.definition l.new) (drop l.place-index l.order))
