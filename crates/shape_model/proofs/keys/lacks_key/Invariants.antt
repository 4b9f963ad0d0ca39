use Rattle.std.proofs.Common.{◌≡◌, drop}
use Rattle.shape_base.specs.Tables.{lacks_key}
use Rattle.shape_model.proofs.keys.lacks_key.Given as goal

abbrev pub invariant-loop-place : goal.invariant-loop-place
invariant-loop-place l = lacks_key (drop l.place-index l.place-items) l.row ≡ lacks_key l.key l.row
