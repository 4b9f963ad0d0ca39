use Rattle.std.proofs.Common.{◌<◌, length, arith}
use Rattle.std.specs.List.{slice_get}
use Rattle.shape_model.proofs.Places.{def_passed}
use Rattle.shape_model.proofs.tables.def_after.Goals as goal

pub loop-place-preserved : goal.loop-place-preserved
loop-place-preserved c =
    let lt : c.loop-place.place < length c.args.history.now.steps = omega arith in
    def_passed c.args.table c.args.history.now.steps c.loop-place.place c.at.result.now (slice_get c.args.history.now.defs c.args.table) c.loop-place.definition.now c.def_after_one-definition.result.now lt c.at.ensures c.def_after_one-definition.ensures c.loop-place.invariant
