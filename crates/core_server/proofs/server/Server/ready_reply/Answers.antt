use Rattle.std.proofs.Common.{sym}
use Rattle.std.proofs.lemmas.Result.{IfOk-weaker}
use Rattle.core_law.specs.Situation.{registry_start}
use Rattle.core_server.proofs.Replies.{page_inner, kept_reply}
use Rattle.core_server.proofs.server.Server.ready_reply.Goals as goal

pub paged_reply-requires : goal.paged_reply-requires
paged_reply-requires c = let r = c.requires in page_inner r.options r.situation c.args.self.now c.args.number c.in-Some.shape.now r.stands
    (sym (c.in-Some.ensures.by_history (registry_start r.options) r.situation.registry r.stands.registry)) (sym c.in-Some.ensures.kept) _ _ c.args.late c.in_ok-paged.paged c.in_ok-paged.ensures.paged c.in_ok-paged.ensures.utf8

pub returns : goal.returns
returns c = λ o v h live ready. IfOk-weaker c.paged_reply.result _ _
    (λ reply f. kept_reply o v c.args.self.now c.args.number c.in-Some.shape.now h live (sym c.in-Some.ensures.kept) ready c.args.late c.args.ask.now _ _ c.in_ok-paged.paged
    c.place_of-offset.ensures.offset c.place_of-offset.ensures.live c.in_ok-paged.ensures.paged c.test.result.now reply c.test.ensures f) c.paged_reply.ensures
