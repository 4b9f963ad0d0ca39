use Rattle.std.proofs.Common.{ℕ, ◌<◌, ◌≤◌}
use Rattle.std.specs.List.Sorted.{IsPermutation}
use Rattle.shape_base.specs.Tables.{table_after}
use Rattle.script_check.specs.Honest.{IsDefinedAt}
use Rattle.script_check.proofs.honesty.first_taken.Given as goal

-- none of the steps so far
abbrev pub invariant-loop-step : goal.invariant-loop-step
invariant-loop-step l = (k : ℕ) → 0 ≤ k → k < l.step → IsDefinedAt l.history l.snapshot.definition l.count k → IsPermutation (table_after l.history l.snapshot.definition.table k) l.snapshot.rows → ⊥
