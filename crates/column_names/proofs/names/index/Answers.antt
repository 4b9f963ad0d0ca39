use Rattle.std.proofs.Common.{◌≡◌, ◌+◌, ◌-◌, ◌<◌, length, arith}
use Rattle.column_names.proofs.Indexing.{one_earlier, repeats_earlier}
use Rattle.column_names.proofs.names.index.Goals as goal

pub loop-left-preserved : goal.loop-left-preserved
loop-left-preserved c =
    let lt : c.loop-left.left - 1 < length c.args.columns.now = omega arith in
    let next : c.loop-left.left ≡ c.loop-left.left - 1 + 1 = omega arith in
    record {
      within = omega arith;
      finds = one_earlier c.args.columns.now c.loop-left.left (c.loop-left.left - 1) c.at.result.now c.loop-left.places c.insert.new.self c.in_ok-name.name lt next c.at.ensures c.in_ok-name.ensures c.in_ok-later.ensures.updates.0 c.loop-left.invariant.finds;
      repeats = repeats_earlier c.args.columns.now c.loop-left.left (c.loop-left.left - 1) c.at.result.now c.loop-left.places c.in_ok-name.name c.in_ok-later.later c.loop-left.repeats _ lt next c.at.ensures c.in_ok-name.ensures c.in_ok-later.ensures.old c.loop-left.invariant.finds c.repeats_with-repeats.ensures c.loop-left.invariant.repeats;
    }
