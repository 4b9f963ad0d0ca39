use Rattle.std.proofs.Common.{◌≡◌, take}
use Rattle.shape_base.specs.Log.{replaced}
use Rattle.fold_client.proofs.rows.replaced_cells.Given as goal

abbrev pub invariant-loop-cell : goal.invariant-loop-cell
invariant-loop-cell l = l.made ≡ replaced l.news (take l.cell-index l.cells)
