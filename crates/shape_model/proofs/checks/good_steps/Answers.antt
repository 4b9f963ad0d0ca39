use Rattle.std.proofs.Common.{◌<◌, ◌∙◌, sym, length, arith, None, Some}
use Rattle.shape_model.proofs.Checking.{step_passed}
use Rattle.shape_model.proofs.checks.good_steps.Goals as goal

pub returns-in-None-clause-broken : goal.returns-in-None-clause-broken
returns-in-None-clause-broken c less =
    let lt : c.loop-place.place < length c.args.steps.now = omega arith in
    step_passed c.args.served.now c.args.table c.args.steps.now c.loop-place.place c.at.result.now c.args.start c.loop-place.standing None lt c.at.ensures c.loop-place.invariant (sym c.in_ok-after_step.ensures ∙ c.in-None.is)

pub loop-place-preserved : goal.loop-place-preserved
loop-place-preserved c =
    let lt : c.loop-place.place < length c.args.steps.now = omega arith in
    step_passed c.args.served.now c.args.table c.args.steps.now c.loop-place.place c.at.result.now c.args.start c.loop-place.standing (Some c.in-Some.after) lt c.at.ensures c.loop-place.invariant (sym c.in_ok-after_step.ensures ∙ c.in-Some.is)
