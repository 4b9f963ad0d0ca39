use Rattle.std.proofs.Common.{◌≡◌, ℕ, ◌<◌, ◌≤◌, false}
use Rattle.script_check.specs.Honest.{shows}
use Rattle.script_check.proofs.shown.shown_from.Given as goal

-- none so far is visible
abbrev pub invariant-loop-place : goal.invariant-loop-place
invariant-loop-place l = (l.from ≤ l.place) × ((i : ℕ) → l.from ≤ i → i < l.place → shows l.visibility l.xids i ≡ false)
