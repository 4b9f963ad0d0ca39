use Rattle.std.proofs.Common.{◌<◌, ◌∙◌, sym, length, arith}
use Rattle.shape_model.proofs.Texts.{has, has_more, rows_passed}
use Rattle.shape_model.proofs.keys.are_new.Goals as goal

pub loop-place-preserved : goal.loop-place-preserved
loop-place-preserved c =
    let lt : c.loop-place.place < length c.args.rows.now = omega arith in
    rows_passed c.args.key.now c.args.rows.now c.loop-place.place c.at.result.now c.in_ok-text.text (has c.loop-place.seen) (has c.insert.new.self) _ lt c.at.ensures c.in_ok-text.ensures (sym c.contains_key.ensures ∙ c.if-contains_key.false)
    (has_more c.loop-place.seen c.insert.new.self c.in_ok-text.text _ c.loop-place.place c.in_ok-_before.ensures.updates.0 c.in_ok-text.ensures) c.loop-place.invariant
