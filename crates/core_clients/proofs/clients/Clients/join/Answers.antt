use Rattle.std.proofs.Common.{◌∷◌, ◌++◌, [], None, List, sym, subst}
use Rattle.core_clients.specs.declared.follower.Follower.{Follower}
use Rattle.core_clients.specs.Standing.{EachStands}
use Rattle.core_clients.proofs.Standings.{stands_push, new_stands}
use Rattle.core_clients.proofs.clients.Clients.join.Goals as goal

pub returns-clause-ok : goal.returns-clause-ok
returns-clause-ok c s asked h =
    let one = new_stands c.new.result c.args.query asked c.new.ensures.query c.new.ensures.held c.new.ensures.waiting in
    subst (λ (fs : List Follower). EachStands fs (s.customers ++ record { query = c.args.query; asked = asked; waiting = None; took = [] } ∷ [])) (sym {A = List Follower} c.in_ok-push.ensures.items) (stands_push c.args.self.now.followers.items s.customers c.new.result _ h one)
