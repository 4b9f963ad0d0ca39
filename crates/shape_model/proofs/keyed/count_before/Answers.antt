use Rattle.std.proofs.Common.{◌<◌, ◌∙◌, length, arith, refl, sym}
use Rattle.shape_model.proofs.KeyOrder.{put_stops, put_goes_on}
use Rattle.shape_model.proofs.keyed.count_before.Goals as goal

pub returns-then-comes_before-clause-put : goal.returns-then-comes_before-clause-put
returns-then-comes_before-clause-put c =
    let lt : c.loop-index.index < length c.args.order.now = omega arith in
    put_stops c.args.definition.now c.args.order.now c.loop-index.index c.args.place _ lt refl (sym c.comes_before.ensures ∙ c.if-comes_before.true) c.loop-index.invariant

pub loop-index-preserved : goal.loop-index-preserved
loop-index-preserved c =
    let lt : c.loop-index.index < length c.args.order.now = omega arith in
    put_goes_on c.args.definition.now c.args.order.now c.loop-index.index c.args.place _ lt refl (sym c.comes_before.ensures ∙ c.if-comes_before.false) c.loop-index.invariant
