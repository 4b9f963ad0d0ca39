use Rattle.std.proofs.Common.{◌≡◌, Some}
use Rattle.shape_base.specs.Tables.{def_after}
use Rattle.shape_model.proofs.tables.def_after.Given as goal

abbrev pub invariant-loop-place : goal.invariant-loop-place
invariant-loop-place l = def_after l.history l.table l.place ≡ Some l.definition
