use Rattle.std.proofs.Common.{◌≡◌, drop}
use Rattle.std.specs.List.{list_any}
use Rattle.shape_base.specs.Tables.{same_row}
use Rattle.shape_model.proofs.checks.is_there.Given as goal

abbrev pub invariant-loop-row : goal.invariant-loop-row
invariant-loop-row l = list_any (same_row l.old) (drop l.row-index l.row-items) ≡ list_any (same_row l.old) l.rows
