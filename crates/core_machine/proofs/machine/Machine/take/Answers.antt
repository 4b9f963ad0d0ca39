use Rattle.std.proofs.Common.{refl, ◌≡◌, ◌∙◌, true, sym, ap, subst, arith, List, ℕ, Option, None, Some}
use Rattle.std.specs.Prelude.{slice_get}
use Rattle.fold_client.specs.Following.{Heard}
use Rattle.shape_base.specs.declared.reply.Reply.{Reply}
use Rattle.core_law.specs.Situation.{Exchange, Customer}
use Rattle.core_exchanges.specs.Standing.{AreGiven}
use Rattle.core_clients.specs.declared.follower.Received.{Received}
use Rattle.core_clients.specs.Taking.{IsReceivedBy}
use Rattle.core_machine.specs.declared.machine.Machine.{Machine}
use Rattle.core_machine.specs.Customers.{is_target, Receipt, TookIt}
use Rattle.core_machine.proofs.Answers.{one_there}
use Rattle.core_machine.proofs.Receiving.{customer_there, heard_there, heard_as, said_at, is_next_from, took_it}
use Rattle.core_machine.proofs.machine.Machine.take.Goals as goal

pub returns-in-Some-2 : goal.returns-in-Some-2
returns-in-Some-2 c o s h =
    let n = c.args.client in
    let e = c.args.exchange in
    let m = c.args.self.now in
    let kept = c.in-Some-get.found.now in
    let after : Machine = record c.args.self.now { clients = c.take.new.self } in
    let hit : c.is_target.result ≡ true = grind (arith, c.if-not-is_target.false) in
    customer_there s n c.in-Some.next (sym c.in-Some.is ∙ c.in_ok-next.ensures s.customers h.clients) (λ cust at same.
    one_there kept (slice_get s.exchanges e) (c.in-Some-get.ensures s.exchanges h.exchanges) (λ x there st.
    heard_there c.in-Some-given.reply x.asked x.given (subst (λ (g : Option Reply). AreGiven g x.asked x.given) c.in-Some-given.is st.given) (λ k given reply_same.
    let next = is_next_from cust x.target c.in-Some.next same (ap (λ (t : Option (List ℕ)). is_target t c.in-Some.next) (sym st.target) ∙ sym c.is_target.ensures ∙ hit) in
    let took = (c.in_ok-received.ensures).takes s.customers k h.clients (heard_as c.in-Some-given.reply k reply_same (said_at s.exchanges e x k h.said there given)) in
    let is : IsReceivedBy n k (Some cust) (Some c.in-Some-2.received) = subst (λ (r : Option Received). IsReceivedBy n k (Some cust) r) c.in-Some-2.is (subst (λ (a : Option Customer). IsReceivedBy n k a c.in_ok-received.field-0) at took.0) in
    subst (λ (a : Option Customer). Receipt o s n e a (slice_get s.exchanges e) c.in-Some-2.received after) (sym at)
    (subst (λ (b : Option Exchange). Receipt o s n e (Some cust) b c.in-Some-2.received after) (sym there)
    (subst (λ (g : Option Heard). TookIt o s n e cust x g c.in-Some-2.received after) (sym given)
    (took_it o s n e cust x k at there given next m after c.in-Some-2.received h is took.1 refl refl refl refl refl refl))))))

pub returns : goal.returns
returns c o s h =
    let n = c.args.client in
    let e = c.args.exchange in
    let kept = c.in-Some-get.found.now in
    customer_there s n c.in-Some.next (sym c.in-Some.is ∙ c.in_ok-next.ensures s.customers h.clients) (λ cust at same.
    one_there kept (slice_get s.exchanges e) (c.in-Some-get.ensures s.exchanges h.exchanges) (λ x there st.
    heard_there c.in-Some-given.reply x.asked x.given (subst (λ (g : Option Reply). AreGiven g x.asked x.given) c.in-Some-given.is st.given) (λ k given reply_same.
    let took = (c.in_ok-received.ensures).takes s.customers k h.clients (heard_as c.in-Some-given.reply k reply_same (said_at s.exchanges e x k h.said there given)) in
    let is : IsReceivedBy n k (Some cust) None = subst (λ (r : Option Received). IsReceivedBy n k (Some cust) r) c.in-None.is (subst (λ (a : Option Customer). IsReceivedBy n k a c.in_ok-received.field-0) at took.0) in
    absurd is)))
