use Rattle.std.proofs.Common.{◌≡◌, length, take}
use Rattle.shape_json.specs.Body.{cell_text}
use Rattle.shape_json.specs.Body.{capped}
use Rattle.shape_json.proofs.Writing.{more}
use Rattle.shape_json.proofs.size.more_cells_size.Given as goal

abbrev pub invariant-loop-cell : goal.invariant-loop-cell
invariant-loop-cell l = l.size ≡ capped (length (more cell_text (take l.cell-index l.cells)))
