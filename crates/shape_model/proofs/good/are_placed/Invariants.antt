use Rattle.std.proofs.Common.{◌≡◌, drop}
use Rattle.shape_model.specs.Order.{are_placed}
use Rattle.shape_model.proofs.good.are_placed.Given as goal

abbrev pub invariant-loop-place : goal.invariant-loop-place
invariant-loop-place l = are_placed l.place (drop l.place l.defs) ≡ are_placed 0 l.defs
