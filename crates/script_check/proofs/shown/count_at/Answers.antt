use Rattle.std.proofs.Common.{◌<◌, length, arith}
use Rattle.script_check.proofs.Visible.{count_passed}
use Rattle.script_check.proofs.shown.count_at.Goals as goal

pub loop-place-preserved : goal.loop-place-preserved
loop-place-preserved c =
    let lt : c.loop-place.place < length c.args.history.now.steps = omega (arith, c.loop-place-test.true, c.requires) in
    let more = count_passed c.args.history.now.steps c.loop-place.place c.at.result.now lt c.at.ensures in
    (omega (arith, more, c.loop-place.invariant.0, c.commits_in-count.ensures.is), omega (arith, c.loop-place.invariant.1, c.commits_in-count.ensures.bound))
