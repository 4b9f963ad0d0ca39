use Rattle.std.proofs.Common.{◌≡◌, take, Some}
use Rattle.shape_model.specs.Order.{check_orders}
use Rattle.shape_model.proofs.good.ordered_steps.Given as goal

-- the last LSN of the steps so far
abbrev pub invariant-loop-place : goal.invariant-loop-place
invariant-loop-place l = check_orders l.tables (take l.place l.steps) 0 ≡ Some l.low
