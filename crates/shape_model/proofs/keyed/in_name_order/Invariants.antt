use Rattle.std.proofs.Common.{◌≡◌, ◌≤◌, length, drop}
use Rattle.shape_base.specs.Shape.{by_name}
use Rattle.shape_model.proofs.keyed.in_name_order.Given as goal

-- the last places stand in order
abbrev pub invariant-loop-left : goal.invariant-loop-left
invariant-loop-left l = record {
  within : l.left ≤ length l.places;
  order : l.order.items ≡ by_name l.definition (drop l.left l.places);
}

abbrev pub decreases-loop-left : goal.decreases-loop-left
decreases-loop-left l = l.left
