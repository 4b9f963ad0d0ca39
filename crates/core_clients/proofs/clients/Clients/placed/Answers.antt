use Rattle.std.specs.Prelude.{slice_get}
use Rattle.std.proofs.Common.{◌≡◌, ◌≤◌, List, length, Some, refl, sym, ap, subst, ◌∙◌}
use Rattle.std.proofs.lemmas.Option.{slice_get_read}
use Rattle.std.specs.Option.{option_map}
use Rattle.fold_client.specs.Client.{Held}
use Rattle.core_law.specs.Situation.{Customer, held_of}
use Rattle.core_clients.specs.declared.follower.Follower.{Follower}
use Rattle.core_clients.specs.Placing.{placed_ask}
use Rattle.core_clients.proofs.Standings.{past_end, of_customer, no_customer}
use Rattle.core_clients.proofs.clients.Clients.placed.Goals as goal

pub returns-in_ok-placed-in-Some : goal.returns-in_ok-placed-in-Some
returns-in_ok-placed-in-Some c customers h =
    let v = c.args.self.now.followers.items in
    let e = c.in-Some.ensures.lookup in
    let f = c.in-Some.follower.now in
    let is : slice_get v c.args.client ≡ Some f = subst (λ (fs : List Follower). slice_get fs c.args.client ≡ Some f) c.deref.ensures.value (slice_get_read c.deref.result.now (length c.deref.result.now) c.args.client f refl e.3.0 e.1) in
    of_customer (λ (x : Customer). placed_ask (held_of x) c.args.first.now) c.in_ok-placed-in-Some.field-0 v customers c.args.client f h is (λ x one. c.in_ok-placed-in-Some.ensures ∙ ap (λ (d : Held). placed_ask d c.args.first.now) one.held)

pub returns-in-None : goal.returns-in-None
returns-in-None c customers h =
    let v = c.args.self.now.followers.items in
    let past : length v ≤ c.args.client = subst (λ (fs : List Follower). length fs ≤ c.args.client) c.deref.ensures.value (past_end c.args.client (length c.deref.result.now) c.in-None.ensures.lookup.0) in
    ap (option_map (λ (x : Customer). placed_ask (held_of x) c.args.first.now)) (sym (no_customer v customers c.args.client h past))
