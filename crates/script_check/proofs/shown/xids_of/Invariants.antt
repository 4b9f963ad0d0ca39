use Rattle.std.proofs.Common.{◌≡◌, ◌++◌, drop}
use Rattle.script_check.specs.Honest.{xids_of}
use Rattle.script_check.proofs.shown.xids_of.Given as goal

-- the ids so far, with those of the steps that are left
abbrev pub invariant-loop-step : goal.invariant-loop-step
invariant-loop-step l = l.xids.items ++ xids_of (drop l.step-index l.step-items) ≡ xids_of l.steps
