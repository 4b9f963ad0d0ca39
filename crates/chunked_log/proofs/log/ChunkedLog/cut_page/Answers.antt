use Rattle.std.proofs.Common.{◌-◌, refl, sym, subst, arith}
use Rattle.std.specs.Str.{IsUtf8}
use Rattle.std.specs.Prelude.{slice_range}
use Rattle.shape_base.specs.declared.page.Page.{Page}
use Rattle.chunked_log.specs.Chunked.{Chunked}
use Rattle.chunked_log.proofs.Settling.{all_between}
use Rattle.chunked_log.proofs.Utf8.{joined_utf8}
use Rattle.chunked_log.proofs.Paging.{IsMade, count_inside, carried, settled, filled}
use Rattle.chunked_log.proofs.log.ChunkedLog.cut_page.Goals as goal

pub stop-to-requires-clause-within : goal.stop-to-requires-clause-within
stop-to-requires-clause-within c = omega (arith, (c.in-Ok.ensures).found, count_inside c.args.offset c.self.inside.log.offsets, c.self.invariant.same)

unfoldable page : goal.After-end_of_page-end → Page
page c = record { inner = c.in_ok-inner.inner; count = c.stop-to.result.0 - c.in-Ok.from; end = c.end_of_page-end.result; up_to_date = c.stop-to.result.1 }

made : (c : goal.After-end_of_page-end) → IsMade c.args.self.now c.args.offset c.in-Ok.from c.stop-to.result (page c)
unfolding page
made c = subst (λ (l : Chunked). IsMade l c.args.offset c.in-Ok.from c.stop-to.result (page c)) c.self.view_is (record {
  from_is = (c.in-Ok.ensures).found;
  stops = c.stop-to.ensures.stops;
  within = c.stop-to.ensures.inside;
  inner = (c.in_ok-inner.ensures);
  count = refl;
  end = c.end_of_page-end.ensures;
  up_to_date = refl;
})

pub returns-clause-page : goal.returns-clause-page
unfolding page
returns-clause-page c = λ entries held. carried c.args.self.now entries c.args.offset c.in-Ok.from c.stop-to.result (page c) held (made c)

pub returns-clause-settles : goal.returns-clause-settles
unfolding page
returns-clause-settles c = λ entries more held closed. settled c.args.self.now entries more c.args.offset c.in-Ok.from c.stop-to.result (page c) held (made c) closed

pub returns-clause-filled : goal.returns-clause-filled
unfolding page
returns-clause-filled c = λ entries held none. filled c.args.self.now entries c.args.offset c.in-Ok.from c.stop-to.result (page c) held (made c) none

pub returns-clause-utf8 : goal.returns-clause-utf8
returns-clause-utf8 c =
    let texts = c.self.inside.log.texts in
    subst IsUtf8 (sym c.in_ok-inner.ensures) (joined_utf8 (slice_range texts c.in-Ok.from c.stop-to.result.0) (all_between IsUtf8 c.in-Ok.from c.stop-to.result.0 texts c.self.invariant.texts))
