use Rattle.std.proofs.Common.{inr, refl, Err}
use Rattle.std.proofs.lemmas.Result.{IfOk-weaker}
use Rattle.http_edge.specs.declared.error_code.ErrorCode.TheVariants as codes
use Rattle.http_edge.specs.declared.request.HeadError.TheVariants as heads
use Rattle.sync_core.proofs.Readings.{refused_reads, whole_serves, never_more}
use Rattle.sync_core.proofs.reading.read_head.Goals as goal

pub returns-in-Err-HeadTooLong-clause-reads : goal.returns-in-Err-HeadTooLong-clause-reads
returns-in-Err-HeadTooLong-clause-reads c =
    let is = rw c.in-Err-HeadTooLong.field-0-is at c.in-Err-HeadTooLong.ensures in
    IfOk-weaker c.refused_whole.result _ _ (λ coming h. refused_reads c.args.tables.now c.args.bytes.now heads.HeadTooLong codes.HeadTooLong coming is refl h) c.refused_whole.ensures

pub returns-in-Err-HeadTooLong-clause-served : goal.returns-in-Err-HeadTooLong-clause-served
returns-in-Err-HeadTooLong-clause-served c = IfOk-weaker c.refused_whole.result _ _ (λ coming h. whole_serves c.args.tables.now c.args.bytes.now codes.HeadTooLong coming h) c.refused_whole.ensures

pub returns-in-Err-BadHead-clause-reads : goal.returns-in-Err-BadHead-clause-reads
returns-in-Err-BadHead-clause-reads c =
    let is = rw c.in-Err-BadHead.field-0-is at c.in-Err-BadHead.ensures in
    inr (never_more c.args.bytes.now is, record { answer = Err heads.BadHead; is = is; reads = c.refused.ensures })

pub returns-in-Err-BodyRefused-clause-reads : goal.returns-in-Err-BodyRefused-clause-reads
returns-in-Err-BodyRefused-clause-reads c =
    let is = rw c.in-Err-BodyRefused.field-0-is at c.in-Err-BodyRefused.ensures in
    IfOk-weaker c.refused_whole-in-Err-BodyRefused.result _ _ (λ coming h. refused_reads c.args.tables.now c.args.bytes.now heads.BodyRefused codes.BodyRefused coming is refl h) c.refused_whole-in-Err-BodyRefused.ensures

pub returns-in-Err-BodyRefused-clause-served : goal.returns-in-Err-BodyRefused-clause-served
returns-in-Err-BodyRefused-clause-served c = IfOk-weaker c.refused_whole-in-Err-BodyRefused.result _ _ (λ coming h. whole_serves c.args.tables.now c.args.bytes.now codes.BodyRefused coming h) c.refused_whole-in-Err-BodyRefused.ensures
