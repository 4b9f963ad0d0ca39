use Rattle.std.proofs.Common.{◌≡◌, ◌∙◌, true, false, [], sym, ap, subst}
use Rattle.std.specs.Prelude.{slice_get, Result, Err}
use Rattle.std.proofs.lemmas.Result.{err_from_is_err_and}
use Rattle.core_events.specs.declared.out.StepError.{StepError}
use Rattle.core_machine.specs.declared.watching.Round.{Round}
use Rattle.core_machine.specs.Watching.{has_reply, Rounds}
use Rattle.core_machine.proofs.Receiving.{receipt_situated}
use Rattle.core_machine.proofs.Rounds.{asks, holds, took, takes_not}
use Rattle.core_machine.proofs.machine.Machine.watch_round.Goals as goal

pub returns-in_default-clause-rounds : goal.returns-in_default-clause-rounds
returns-in_default-clause-rounds c o s h = asks o s c.args.client _ _ (sym c.in_default.is ∙ c.waiting.ensures s.customers h.clients) ((c.in_ok-outs.ensures).takes o s h)

pub returns-then-not-has_reply-clause-rounds : goal.returns-then-not-has_reply-clause-rounds
returns-then-not-has_reply-clause-rounds c o s h =
    let lacks : has_reply (slice_get s.exchanges c.in-Some.exchange) ≡ false = sym (c.has_reply.ensures s.exchanges h.exchanges) ∙ c.if-not-has_reply.true in
    holds o s c.args.client _ _ c.in-Some.exchange (sym c.in-Some.is ∙ c.waiting.ensures s.customers h.clients) lacks c.new-outs.ensures h

pub returns-in_err-received-clause-rounds : goal.returns-in_err-received-clause-rounds
returns-in_err-received-clause-rounds c o s h =
    let has : has_reply (slice_get s.exchanges c.in-Some.exchange) ≡ true = sym (c.has_reply.ensures s.exchanges h.exchanges) ∙ c.if-not-has_reply.false in
    let p = err_from_is_err_and c.from_residual-in_err-received.result c.from_residual-in_err-received.ensures.1 in
    subst (λ (r : Result Round StepError). Rounds o s c.args.client r c.take.new.self) (sym (p.1 ∙ ap (λ (x : StepError). Err x) p.2))
    (takes_not o s c.args.client [] c.take.new.self c.in-Some.exchange c.in_err-received.field-0.0 (sym c.in-Some.is ∙ c.waiting.ensures s.customers h.clients) has (c.in_err-received.ensures o s h))

pub returns-clause-rounds : goal.returns-clause-rounds
returns-clause-rounds c o s h =
    let has : has_reply (slice_get s.exchanges c.in-Some.exchange) ≡ true = sym (c.has_reply.ensures s.exchanges h.exchanges) ∙ c.if-not-has_reply.false in
    took o s c.args.client c.in-Some.exchange c.in_ok-received.received _ (sym c.in-Some.is ∙ c.waiting.ensures s.customers h.clients) has (c.in_ok-received.ensures o s h)

pub returns-clause-situated : goal.returns-clause-situated
returns-clause-situated c = let w = c.requires in receipt_situated w.options w.situation c.args.client c.in-Some.exchange (slice_get w.situation.customers c.args.client) (slice_get w.situation.exchanges c.in-Some.exchange) c.in_ok-received.received _ (c.in_ok-received.ensures w.options w.situation w.stands)
