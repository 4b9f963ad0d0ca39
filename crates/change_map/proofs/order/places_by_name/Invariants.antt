use Rattle.std.proofs.Common.{◌≡◌, ◌≤◌, length, drop}
use Rattle.std.specs.List.{AllByRecursion}
use Rattle.std.specs.BTreeMap.{values}
use Rattle.shape_base.specs.Shape.{name_at, by_name}
use Rattle.change_map.proofs.order.places_by_name.Given as goal

-- the last places stand in order, each under its column's name
abbrev pub invariant-loop-left : goal.invariant-loop-left
invariant-loop-left l = record {
  within : l.left ≤ length l.selected;
  order : values l.named ≡ by_name l.definition (drop l.left l.selected);
  names : AllByRecursion (λ e. e.0.now ≡ name_at l.definition e.1) l.named.entries;
}

abbrev pub decreases-loop-left : goal.decreases-loop-left
decreases-loop-left l = l.left
