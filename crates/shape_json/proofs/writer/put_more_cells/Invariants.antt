use Rattle.std.proofs.Common.{◌∷◌, map, take}
use Rattle.std.specs.List.{flat_map}
use Rattle.shape_json.specs.Body.{cell_text}
use Rattle.shape_json.specs.Buffer.{Adds}
use Rattle.shape_json.proofs.writer.put_more_cells.Given as goal

abbrev pub invariant-loop-cell : goal.invariant-loop-cell
invariant-loop-cell l = record {
  added : Adds l.fn.out l.out (flat_map (λ text. 44 ∷ text) (map cell_text (take l.cell-index l.cells)));
}
