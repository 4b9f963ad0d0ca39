use Rattle.std.proofs.Common.{◌<◌, List, sym, subst}
use Rattle.shape_base.specs.declared.offset.Offset.{Offset}
use Rattle.shape_log.specs.Texts.{end_of}
use Rattle.shape_state.specs.Reading.{reader_of}
use Rattle.shape_state.specs.Later.{lsn_in}
use Rattle.shape_state.specs.Additions.{IsAddition}
use Rattle.shape_state.proofs.Taking.{fits_behind, ends_with}
use Rattle.shape_state.proofs.readying.add.Goals as goal

pub append-requires-clause-after : goal.append-requires-clause-after
append-requires-clause-after g c =
    let r = reader_of (g.T.RowTest.knows c.args.emitter.now.test) (g.T.RowTest.unread c.args.emitter.now.test) in
    let fits = subst (IsAddition r c.args.limits.now c.bytes.result c.args.tx.now) c.in-Fits.is c.in_ok-written.ensures in
    fits_behind r c.args.limits.now c.bytes.result c.args.tx.now c.in-Fits.written (end_of c.reserve.new.self.offsets) fits.0 fits.1 (subst (λ (os : List Offset). lsn_in (end_of os) < c.args.tx.now.lsn) (sym (c.in_ok-reserve.ensures).offsets) c.requires.later)

pub returns-clause-end : goal.returns-clause-end
returns-clause-end g c = λ none.
    let r = reader_of (g.T.RowTest.knows c.args.emitter.now.test) (g.T.RowTest.unread c.args.emitter.now.test) in
    let fits = subst (IsAddition r c.args.limits.now c.bytes.result c.args.tx.now) c.in-Fits.is c.in_ok-written.ensures in
    ends_with r c.args.tx.now c.in-Fits.written c.reserve.new.self.offsets c.append.new.self.offsets fits.1 c.append.ensures.offsets (subst (λ (os : List Offset). lsn_in (end_of os) < c.args.tx.now.lsn) (sym (c.in_ok-reserve.ensures).offsets) c.requires.later)
