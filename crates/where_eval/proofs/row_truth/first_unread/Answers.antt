use Rattle.std.proofs.Common.{sym, ◌∙◌, arith}
use Rattle.where_eval.specs.Checked.{is_unread}
use Rattle.where_eval.proofs.Seeing.{one_more_read}
use Rattle.where_eval.proofs.row_truth.first_unread.Goals as goal

pub loop-place-preserved : goal.loop-place-preserved
loop-place-preserved c = (omega (arith, c.loop-place-test.true), one_more_read (is_unread c.args.kinds.now c.args.row.now) c.loop-place.place c.loop-place.invariant.1 (sym c.is_unread_at.ensures ∙ c.if-is_unread_at.false))
