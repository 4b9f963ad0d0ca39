use Rattle.std.proofs.Common.{◌<◌, ◌∙◌, sym, length, arith, None, Some}
use Rattle.shape_model.proofs.Breaking.{order_passed}
use Rattle.shape_model.proofs.good.ordered_steps.Goals as goal

pub returns-in-None-clause-broken : goal.returns-in-None-clause-broken
returns-in-None-clause-broken c less = order_passed c.args.tables c.args.steps.now c.loop-place.place c.at.result.now c.loop-place.low None less c.at.ensures c.loop-place.invariant (sym c.after_order.ensures ∙ c.in-None.is)

pub loop-place-preserved : goal.loop-place-preserved
loop-place-preserved c =
    let lt : c.loop-place.place < length c.args.steps.now = omega arith in
    order_passed c.args.tables c.args.steps.now c.loop-place.place c.at.result.now c.loop-place.low (Some c.in-Some.next) lt c.at.ensures c.loop-place.invariant (sym c.after_order.ensures ∙ c.in-Some.is)
