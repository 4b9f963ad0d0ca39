use Rattle.std.proofs.Common.{◌≡◌, ◌∙◌, List, ℕ, [], true, false, sym, ap, subst, Option, None, Some}
use Rattle.http_edge.specs.declared.error_code.ErrorCode.TheVariants as codes
use Rattle.http_edge.specs.Lawful as lawful
use Rattle.core_events.specs.declared.out.Out.{Out}
use Rattle.core_law.specs.Situation.{Customer, next_target, next_asked}
use Rattle.core_law.specs.Clients.{has_room, is_long}
use Rattle.core_law.specs.Reached.{AsksOfTable}
use Rattle.core_law.specs.Steps.{request}
use Rattle.core_exchanges.specs.declared.exchange.Asked as kept
use Rattle.core_exchanges.specs.Standing.{asked_of}
use Rattle.core_clients.specs.Standing as clients
use Rattle.core_machine.specs.declared.machine.Machine.{Machine}
use Rattle.core_machine.specs.Customers.{IsNextAsked}
use Rattle.core_machine.specs.Opening.{IsRequested}
use Rattle.core_machine.proofs.Receiving.{customer_there}
use Rattle.core_machine.proofs.Sending.{of_table, sent_on, long_is, short_is, either_way}
use Rattle.core_law.specs.Run.{SendNext, turn_of}
use Rattle.core_machine.proofs.Turning.{situated}
use Rattle.core_machine.proofs.machine.Machine.send_next.Goals as goal

pub returns-clause-takes : goal.returns-clause-takes
returns-clause-takes c o s h =
    let m = c.args.self.now in
    let n = c.args.client in
    let target = c.in-Some.target in
    let i = c.in_ok-index.index in
    let after : Machine = record c.send.new.self { clients = c.wait.new.self } in
    let spares = (c.in_ok-index.ensures).spares in
    let room : has_room s ≡ true = sym (c.has_room.ensures.room s h.exchanges) ∙ c.if-not-has_room.false in
    let waits = c.wait.ensures s.customers (subst (λ cs. clients.Stands cs s.customers) (sym spares.clients) h.clients) in
    customer_there s n target (sym c.in-Some.is ∙ c.in_ok-target.ensures s.customers h.clients) (λ cust at same.
    let asks : IsNextAsked m (Some c.in-Some-2.asked) (Some cust) = subst (λ (a : Option kept.Asked). IsNextAsked m a (Some cust)) c.in-Some-2.is (subst (λ (x : Option Customer). IsNextAsked m c.in_ok-asked.field-0 x) at (c.in_ok-asked.ensures o s h)) in
    either_way (is_long target)
    (λ long. sent_on o s m h n cust at room None (lawful.Refuses codes.HeadTooLong) (long_is o s cust (ap is_long (sym same) ∙ long)) after i c.send.new.outs tt
    (let r = subst (λ (before : List Out). IsRequested o s (request o s false None (lawful.Refuses codes.HeadTooLong) false) m c.send.new.self before c.send.new.outs i) c.new-outs.ensures ((c.in_ok-index.ensures).long long o s h) in
    record { index_is = r.index_is; server = r.server; exchanges = r.exchanges; outs = r.outs; lasts = r.lasts })
    waits spares.asks spares.clock spares.hold)
    (λ short. sent_on o s m h n cust at room (Some (next_target cust)) (next_asked cust) (short_is o s cust (ap is_long (sym same) ∙ short)) after i c.send.new.outs
    (subst (AsksOfTable o) asks.0 (of_table o s m c.in-Some-2.asked h asks.1))
    (let r = subst (λ (a : lawful.Asked). IsRequested o s (request o s false (Some (next_target cust)) a false) m c.send.new.self [] c.send.new.outs i) asks.0
    (subst (λ (t : List ℕ). IsRequested o s (request o s false (Some t) (asked_of c.in-Some-2.asked) false) m c.send.new.self [] c.send.new.outs i) same
    (subst (λ (before : List Out). IsRequested o s (request o s false (Some target) (asked_of c.in-Some-2.asked) false) m c.send.new.self before c.send.new.outs i) c.new-outs.ensures ((c.in_ok-index.ensures).short short o s h))) in
    record { index_is = r.index_is; server = r.server; exchanges = r.exchanges; outs = r.outs; lasts = r.lasts })
    waits spares.asks spares.clock spares.hold))

pub returns-clause-situated : goal.returns-clause-situated
returns-clause-situated c = let w = c.requires in situated w.options (turn_of w.options w.situation (SendNext c.args.client)) _ _ (returns-clause-takes c w.options w.situation w.stands)
