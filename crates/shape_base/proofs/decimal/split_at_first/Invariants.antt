use Rattle.std.proofs.Common.{take}
use Rattle.shape_base.specs.Decimal.{LacksByte}
use Rattle.shape_base.proofs.decimal.split_at_first.Given as goal

abbrev pub invariant-loop-place : goal.invariant-loop-place
invariant-loop-place l = LacksByte l.separator (take l.place l.bytes)
