use Rattle.std.proofs.Common.{◌≡◌, ◌++◌, take, drop}
use Rattle.shape_base.specs.Shape.{put_place}
use Rattle.shape_model.proofs.keyed.count_before.Given as goal

-- those so far stand before it
abbrev pub invariant-loop-index : goal.invariant-loop-index
invariant-loop-index l = put_place l.definition l.place l.order ≡ take l.index l.order ++ put_place l.definition l.place (drop l.index l.order)
