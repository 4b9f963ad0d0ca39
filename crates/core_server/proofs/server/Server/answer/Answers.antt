use Rattle.std.proofs.Common.{◌∙◌, Some, ap, sym}
use Rattle.std.specs.Option.{option_map}
use Rattle.std.proofs.lemmas.Result.{IfOk-weaker}
use Rattle.shape_registry.specs.declared.found.Found.TheVariants as found
use Rattle.shape_json.specs.Answer.{in_run}
use Rattle.http_edge.specs.Lawful.{conflict_reply}
use Rattle.core_law.specs.Situation.{registry_start}
use Rattle.core_server.proofs.Replies.{ready_found, reply_is}
use Rattle.core_server.proofs.server.Server.answer.Goals as goal

pub returns-in-Ready : goal.returns-in-Ready
returns-in-Ready c = λ o v h.
    let e = c.in-Ready.ensures.by_history (registry_start o) v.registry h.registry in
    let r = ready_found (registry_start o) v.registry h.registry.legal o.run c.args.ask.now.identity c.args.ask.now.named c.in-Ready.number (sym e) in
    IfOk-weaker c.ready_reply.result _ _ (λ reply f. f ∙ sym (reply_is o v c.args.late c.args.ask.now (found.Ready c.in-Ready.number) h.registry.legal e)) (c.ready_reply.ensures o v h r.live r.ready)

pub returns-in_ok-conflict-in-Gone : goal.returns-in_ok-conflict-in-Gone
returns-in_ok-conflict-in-Gone c = λ o v h. ap Some (c.in_ok-conflict-in-Gone.ensures ∙ ap (λ run. conflict_reply (option_map (in_run run) c.in-Gone.named)) h.run)
    ∙ sym (reply_is o v c.args.late c.args.ask.now (found.Gone c.in-Gone.named) h.registry.legal (c.in-Gone.ensures.by_history (registry_start o) v.registry h.registry))

pub returns-in-Starting : goal.returns-in-Starting
returns-in-Starting c = λ o v h. sym (reply_is o v c.args.late c.args.ask.now (found.Starting c.in-Starting.number) h.registry.legal (c.in-Starting.ensures.by_history (registry_start o) v.registry h.registry))

pub returns-in-Unregistered : goal.returns-in-Unregistered
returns-in-Unregistered c = λ o v h. sym (reply_is o v c.args.late c.args.ask.now found.Unregistered h.registry.legal (c.in-Unregistered.ensures.by_history (registry_start o) v.registry h.registry))
