use Rattle.std.specs.Prelude.{slice_get}
use Rattle.std.proofs.Common.{◌≡◌, ◌≤◌, List, length, Some, refl, sym, ap, subst}
use Rattle.std.proofs.lemmas.Option.{slice_get_read}
use Rattle.core_clients.specs.declared.follower.Follower.{Follower}
use Rattle.std.specs.Option.{option_and_then}
use Rattle.core_law.specs.Situation.{Customer}
use Rattle.core_clients.proofs.Standings.{past_end, open_at, no_customer}
use Rattle.core_clients.proofs.clients.Clients.waiting.Goals as goal

pub returns-in-Some : goal.returns-in-Some
returns-in-Some c customers h =
    let v = c.args.self.now.followers.items in
    let e = c.in-Some.ensures.lookup in
    let f = c.in-Some.follower.now in
    let is : slice_get v c.args.client ≡ Some f = subst (λ (fs : List Follower). slice_get fs c.args.client ≡ Some f) c.deref.ensures.value (slice_get_read c.deref.result.now (length c.deref.result.now) c.args.client f refl e.3.0 e.1) in
    open_at v customers c.args.client f h is

pub returns-in-None : goal.returns-in-None
returns-in-None c customers h =
    let v = c.args.self.now.followers.items in
    let past : length v ≤ c.args.client = subst (λ (fs : List Follower). length fs ≤ c.args.client) c.deref.ensures.value (past_end c.args.client (length c.deref.result.now) c.in-None.ensures.lookup.0) in
    ap (option_and_then (λ (x : Customer). x.waiting)) (sym (no_customer v customers c.args.client h past))
