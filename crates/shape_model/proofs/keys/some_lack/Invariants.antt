use Rattle.std.proofs.Common.{◌≡◌, drop}
use Rattle.std.specs.List.{list_any}
use Rattle.shape_base.specs.Tables.{lacks_key}
use Rattle.shape_model.proofs.keys.some_lack.Given as goal

abbrev pub invariant-loop-row : goal.invariant-loop-row
invariant-loop-row l = list_any (lacks_key l.key) (drop l.row-index l.row-items) ≡ list_any (lacks_key l.key) l.rows
