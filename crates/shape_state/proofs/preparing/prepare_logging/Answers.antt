use Rattle.std.proofs.Common.{◌<◌, ◌∙◌, List, sym, subst}
use Rattle.shape_base.specs.declared.offset.Offset.{Offset}
use Rattle.shape_log.specs.Texts.{end_of}
use Rattle.shape_state.specs.Reading.{reader_of}
use Rattle.shape_state.specs.Later.{lsn_in}
use Rattle.shape_state.specs.Additions.{IsAddition}
use Rattle.shape_state.proofs.Buffering.{skips, drops_by, drops_all, appends}
use Rattle.shape_state.proofs.Taking.{fits_behind}
use Rattle.shape_state.proofs.preparing.prepare_logging.Goals as goal

pub returns-then-is_passed-clause-prepared : goal.returns-then-is_passed-clause-prepared
returns-then-is_passed-clause-prepared g c = λ events is.
    let r = reader_of (g.T.RowTest.knows c.args.emitter.now.test) (g.T.RowTest.unread c.args.emitter.now.test) in
    skips r c.args.limits.now events c.args.tx.now c.args.logging.now is (sym c.if-is_passed.true ∙ c.is_passed.ensures)

pub returns-in-Drops-clause-prepared : goal.returns-in-Drops-clause-prepared
returns-in-Drops-clause-prepared g c = λ events is.
    let r = reader_of (g.T.RowTest.knows c.args.emitter.now.test) (g.T.RowTest.unread c.args.emitter.now.test) in
    drops_by r c.args.limits.now events c.args.tx.now c.args.others c.args.logging.now c.bytes.result c.in-Drops.cause is (sym c.if-is_passed.false ∙ c.is_passed.ensures) c.bytes.ensures.held
    (subst (IsAddition r c.args.limits.now c.bytes.result c.args.tx.now) c.in-Drops.is c.in_ok-written.ensures)

pub returns-in-Some-clause-prepared : goal.returns-in-Some-clause-prepared
returns-in-Some-clause-prepared g c = λ events is.
    let r = reader_of (g.T.RowTest.knows c.args.emitter.now.test) (g.T.RowTest.unread c.args.emitter.now.test) in
    let fits = subst (IsAddition r c.args.limits.now c.bytes.result c.args.tx.now) c.in-Fits.is c.in_ok-written.ensures in
    drops_all r c.args.limits.now events c.args.tx.now c.args.others c.args.logging.now c.bytes.result c.in-Fits.written c.in_ok-cause.field-0 is (sym c.if-is_passed.false ∙ c.is_passed.ensures) c.bytes.ensures.held fits.0 fits.1 (c.in_ok-cause.ensures).found ∙ c.in-Some.is

pub returns-in-None-clause-prepared : goal.returns-in-None-clause-prepared
returns-in-None-clause-prepared g c = λ events is.
    let r = reader_of (g.T.RowTest.knows c.args.emitter.now.test) (g.T.RowTest.unread c.args.emitter.now.test) in
    let fits = subst (IsAddition r c.args.limits.now c.bytes.result c.args.tx.now) c.in-Fits.is c.in_ok-written.ensures in
    let at = drops_all r c.args.limits.now events c.args.tx.now c.args.others c.args.logging.now c.bytes.result c.in-Fits.written c.in_ok-cause.field-0 is (sym c.if-is_passed.false ∙ c.is_passed.ensures) c.bytes.ensures.held fits.0 fits.1 (c.in_ok-cause.ensures).found in
    (appends r c.args.limits.now events c.args.tx.now c.args.others c.args.logging.now c.in_ok-cause.field-0 is (sym c.if-is_passed.false ∙ c.is_passed.ensures) at c.in-None.is, fits.1)

pub returns-in-None-clause-fits : goal.returns-in-None-clause-fits
returns-in-None-clause-fits g c =
    let r = reader_of (g.T.RowTest.knows c.args.emitter.now.test) (g.T.RowTest.unread c.args.emitter.now.test) in
    let fits = subst (IsAddition r c.args.limits.now c.bytes.result c.args.tx.now) c.in-Fits.is c.in_ok-written.ensures in
    ((c.in_ok-cause.ensures).room c.in-None.is, fits_behind r c.args.limits.now c.bytes.result c.args.tx.now c.in-Fits.written (end_of c.make_room.new.log.offsets) fits.0 fits.1 (subst (λ (os : List Offset). lsn_in (end_of os) < c.args.tx.now.lsn) (sym (c.in_ok-cause.ensures).offsets) c.requires.later))
