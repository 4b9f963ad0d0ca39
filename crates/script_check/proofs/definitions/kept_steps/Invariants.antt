use Rattle.script_check.specs.Definitions.{IsKeptTo}
use Rattle.script_check.proofs.definitions.kept_steps.Given as goal

abbrev pub invariant-loop-place : goal.invariant-loop-place
invariant-loop-place l = IsKeptTo l.history l.place
