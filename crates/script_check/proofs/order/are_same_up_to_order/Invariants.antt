use Rattle.std.proofs.Common.{◌++◌, take}
use Rattle.std.specs.List.Sorted.{IsPermutation}
use Rattle.script_check.proofs.order.are_same_up_to_order.Given as goal

-- the rows so far and those that are left are the others
abbrev pub invariant-loop-place : goal.invariant-loop-place
invariant-loop-place l = IsPermutation l.others (take l.place l.rows ++ l.left)
