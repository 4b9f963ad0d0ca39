use Rattle.std.proofs.Common.{◌<◌, length, arith}
use Rattle.shape_model.proofs.KeyOrder.{values_left}
use Rattle.shape_model.proofs.keyed.push_values.Goals as goal

pub loop-place-preserved : goal.loop-place-preserved
loop-place-preserved c =
    let lt : c.loop-place.place-index < length c.args.key.now = omega arith in
    record {
      more = values_left c.args.key.now c.args.row.now c.loop-place.place-index c.from.result _ c.loop-place.out.items c.push_value.new.out.items lt c.from.ensures c.loop-place.invariant.more c.in_ok-push_value.ensures.more;
      utf8 = λ before. c.in_ok-push_value.ensures.utf8 (c.loop-place.invariant.utf8 before);
    }
