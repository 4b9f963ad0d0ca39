use Rattle.std.proofs.Common.{◌≡◌, ◌≤◌, ◌<◌, ◌-◌, ℕ, false, length}
use Rattle.where_eval.specs.Checked.{is_unread}
use Rattle.where_eval.proofs.row_truth.first_unread.Given as goal

-- no text before this place is unread
abbrev pub invariant-loop-place : goal.invariant-loop-place
invariant-loop-place l = (l.place ≤ length l.kinds) × ((place : ℕ) → place < l.place → is_unread l.kinds l.row place ≡ false)

abbrev pub decreases-loop-place : goal.decreases-loop-place
decreases-loop-place l = length l.kinds - l.place
