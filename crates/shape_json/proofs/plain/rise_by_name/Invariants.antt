use Rattle.std.proofs.Common.{◌≡◌, ◌∷◌, drop}
use Rattle.shape_json.specs.Plain.{rise_by_name}
use Rattle.shape_json.proofs.plain.rise_by_name.Given as goal

abbrev pub invariant-loop-cell : goal.invariant-loop-cell
invariant-loop-cell l = rise_by_name l.cells ≡ rise_by_name (l.last ∷ drop l.cell-index l.others)
