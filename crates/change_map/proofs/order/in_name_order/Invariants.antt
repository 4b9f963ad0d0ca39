use Rattle.std.proofs.Common.{◌≡◌}
use Rattle.change_map.proofs.order.in_name_order.Given as goal

-- the places that came, in their order
abbrev pub invariant-loop-place : goal.invariant-loop-place
invariant-loop-place l = l.order.items ≡ l.yielded
