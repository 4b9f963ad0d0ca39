use Rattle.std.proofs.Common.{◌≡◌, ℕ, ◌<◌, ◌≤◌, true}
use Rattle.script_check.specs.Honest.{shows}
use Rattle.script_check.proofs.shown.shown_first.Given as goal

-- all so far are visible
abbrev pub invariant-loop-place : goal.invariant-loop-place
invariant-loop-place l = (i : ℕ) → 0 ≤ i → i < l.place → shows l.visibility l.xids i ≡ true
