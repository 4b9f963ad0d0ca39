use Rattle.std.proofs.Common.{ℕ, ◌<◌, ◌≤◌}
use Rattle.script_check.specs.Honest.{IsDefinedAt}
use Rattle.script_check.proofs.honesty.first_defined.Given as goal

-- none of the steps so far
abbrev pub invariant-loop-step : goal.invariant-loop-step
invariant-loop-step l = (k : ℕ) → 0 ≤ k → k < l.step → IsDefinedAt l.history l.definition l.count k → ⊥
