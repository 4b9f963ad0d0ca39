use Rattle.std.proofs.Common.{◌≡◌, ◌≤◌, length, drop}
use Rattle.shape_def.specs.Identity.{in_order}
use Rattle.shape_def.proofs.identities.name_set.Given as goal

-- the names from here on
abbrev pub invariant-loop-left : goal.invariant-loop-left
invariant-loop-left l = record {
  within : l.left ≤ length l.names;
  set : l.set.keys ≡ in_order (drop l.left l.names);
}

abbrev pub decreases-loop-left : goal.decreases-loop-left
decreases-loop-left l = l.left
