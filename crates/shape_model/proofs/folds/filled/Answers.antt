use Rattle.std.proofs.Common.{◌<◌, length, arith, None, Some}
use Rattle.shape_base.specs.Maps.{map_in}
use Rattle.shape_model.proofs.Maps.{fold_more, some_is}
use Rattle.shape_model.proofs.folds.filled.Goals as goal

pub returns-then-not-branch-clause-fails : goal.returns-then-not-branch-clause-fails
returns-then-not-branch-clause-fails c =
    let lt : c.loop-place.place < length c.args.entries.now = omega arith in
    (lt, some_is _ _ c.loop-place.invariant, fold_more c.args.entries.now c.loop-place.place c.at.result.now _ None lt c.at.ensures c.loop-place.invariant (rw c.if-not-branch.true at c.in_ok-applied.ensures))

pub loop-place-preserved : goal.loop-place-preserved
loop-place-preserved c =
    let lt : c.loop-place.place < length c.args.entries.now = omega arith in
    fold_more c.args.entries.now c.loop-place.place c.at.result.now _ (Some (map_in c.applied.new.shown)) lt c.at.ensures c.loop-place.invariant (rw c.if-not-branch.false at c.in_ok-applied.ensures)
