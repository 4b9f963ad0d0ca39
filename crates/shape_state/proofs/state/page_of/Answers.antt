use Rattle.std.proofs.Common.{◌∙◌, sym, ap, subst}
use Rattle.shape_base.specs.declared.offset.Offset.{Offset}
use Rattle.shape_base.specs.Offsets.{is_before}
use Rattle.shape_log.specs.Texts as texts
use Rattle.chunked_log.specs.Paging.{IsNoPage}
use Rattle.chunked_log.specs.declared.log.PageError.TheVariants as errors
use Rattle.shape_state.proofs.Waiting.{same_end, no_more, both_true}
use Rattle.shape_state.proofs.state.page_of.Goals as goal

pub returns-in-Err-OffsetAhead-clause-paged : goal.returns-in-Err-OffsetAhead-clause-paged
returns-in-Err-OffsetAhead-clause-paged c = λ entries held.
    let e = c.in-Err-OffsetAhead in
    let refused : IsNoPage (texts.end_of c.args.log.now.offsets) c.args.offset (errors.OffsetAhead e.end) = subst (IsNoPage (texts.end_of c.args.log.now.offsets) c.args.offset) e.field-0-is (e.ensures).refused in
    let same = same_end c.args.log.now entries held in
    (refused.0 ∙ same, ap (λ (o : Offset). is_before o c.args.offset) (sym same) ∙ refused.1)

pub returns-then-is_nothing_yet-clause-paged : goal.returns-then-is_nothing_yet-clause-paged
returns-then-is_nothing_yet-clause-paged c = λ entries held.
    let both = both_true c.args.live c.args.late c.in-Ok.page.count (sym c.is_nothing_yet.ensures ∙ c.if-is_nothing_yet.true) in
    (both.0, ap (λ (o : Offset). is_before o c.args.offset) (sym (same_end c.args.log.now entries held)) ∙ (c.in-Ok.ensures).within, (c.in-Ok.ensures).filled entries held both.1)

pub returns-clause-paged : goal.returns-clause-paged
returns-clause-paged c = λ entries held. (
  ap (λ (o : Offset). is_before o c.args.offset) (sym (same_end c.args.log.now entries held)) ∙ (c.in-Ok.ensures).within,
  (c.in-Ok.ensures).page entries held,
  λ waiting none. no_more c.args.log.now entries c.args.offset c.args.live c.args.late c.in-Ok.page ((c.in-Ok.ensures).page entries held) (sym c.is_nothing_yet.ensures ∙ c.if-is_nothing_yet.false) waiting none,
)
