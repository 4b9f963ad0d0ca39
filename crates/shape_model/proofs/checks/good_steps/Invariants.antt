use Rattle.std.proofs.Common.{◌≡◌, take, Some}
use Rattle.shape_model.specs.Checks.{check_steps}
use Rattle.shape_model.proofs.checks.good_steps.Given as goal

-- how the table stands after the steps so far
abbrev pub invariant-loop-place : goal.invariant-loop-place
invariant-loop-place l = check_steps l.served l.table (take l.place l.steps) l.fn.start ≡ Some l.standing
