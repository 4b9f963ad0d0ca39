use Rattle.std.proofs.Common.{◌≡◌, take, Some}
use Rattle.shape_base.specs.Log.{fold}
use Rattle.shape_base.specs.Maps.{map_in}
use Rattle.shape_model.proofs.folds.filled.Given as goal

-- the map is the fold of the entries so far
abbrev pub invariant-loop-place : goal.invariant-loop-place
invariant-loop-place l = fold (take l.place l.entries) ≡ Some (map_in l.shown)
