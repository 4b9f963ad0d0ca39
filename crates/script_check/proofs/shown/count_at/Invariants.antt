use Rattle.std.proofs.Common.{◌≡◌, ◌≤◌}
use Rattle.shape_base.specs.Snapshot.{count_at}
use Rattle.script_check.proofs.shown.count_at.Given as goal

-- the commits among the steps so far
abbrev pub invariant-loop-place : goal.invariant-loop-place
invariant-loop-place l = (l.count ≡ count_at l.history l.place) × (l.count ≤ l.place)
