use Rattle.std.proofs.Common.{◌≡◌, drop}
use Rattle.shape_model.specs.Checks.{are_wide}
use Rattle.shape_model.proofs.keys.are_wide.Given as goal

abbrev pub invariant-loop-row : goal.invariant-loop-row
invariant-loop-row l = are_wide l.def (drop l.row-index l.row-items) ≡ are_wide l.def l.rows
