use Rattle.std.proofs.Common.{◌≡◌, false, take}
use Rattle.std.specs.List.{list_any}
use Rattle.shape_base.specs.Tables.{same_row}
use Rattle.script_check.proofs.order.place_of.Given as goal

-- no row so far is equal to it
abbrev pub invariant-loop-place : goal.invariant-loop-place
invariant-loop-place l = list_any (same_row l.row) (take l.place l.rows) ≡ false
