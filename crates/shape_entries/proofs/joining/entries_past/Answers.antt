use Rattle.std.proofs.Common.{◌∙◌, ◌++◌, List, ap, sym, drop, arith, Some}
use Rattle.std.proofs.Math.ListN.{drop_of_length-le}
use Rattle.shape_base.specs.declared.entry.Entry.{Entry}
use Rattle.shape_base.specs.Offsets.{is_before, past}
use Rattle.shape_base.specs.Log.{end_of}
use Rattle.shape_entries.proofs.Joins.{copied_more, copied_all, not_ahead}
use Rattle.shape_entries.proofs.joining.entries_past.Goals as goal

pub loop-place-init : goal.loop-place-init
loop-place-init c = ap (λ (es : List Entry). es ++ drop c.in-Ok.from c.args.log.now.entries) c.new-made.ensures ∙ (c.in-Ok.ensures).found.after

pub loop-place-preserved : goal.loop-place-preserved
loop-place-preserved c = copied_more c.args.log.now.entries c.loop-place.place c.loop-place.made c.push.new.self (past c.args.offset c.args.log.now.entries) c.in_ok-copy.field-0 (c.at.ensures ∙ ap Some (sym c.in_ok-copy.ensures)) (c.in_ok-push.ensures).ok c.loop-place.invariant

pub returns : goal.returns
returns c = (
  not_ahead c.page_bounds.result c.in-Ok.from (is_before (end_of c.args.log.now.entries) c.args.offset) c.in-Ok.is c.page_bounds.ensures.ahead,
  copied_all c.args.log.now.entries c.loop-place.place c.loop-place.made (past c.args.offset c.args.log.now.entries) (drop_of_length-le c.args.log.now.entries (omega (arith, c.len-place-end.ensures, c.loop-place-test.false))) c.loop-place.invariant,
)
