-- Which clients of the definitions the clients of a program stand for.
use Rattle.std.specs.Prelude.{◌≡◌, List, [], ◌∷◌}
use Rattle.fold_client.specs.Taking.{held_by}
use Rattle.core_law.specs.Situation.{Customer, held_of}
use Rattle.core_clients.specs.declared.follower.Follower.{Follower}
use Rattle.core_clients.specs.declared.clients.Clients.{Clients}

-- a client has the query and the open exchange of a customer, and holds what the replies that this one took lead to
pub record StandsFor (f : Follower) (c : Customer) : Type 0 where
  pub query : f.client.query ≡ c.query
  pub held : held_by f.client ≡ held_of c
  pub waiting : f.waiting ≡ c.waiting

-- each in its place
abbrev pub EachStands : List Follower → List Customer → Type 0
EachStands [] [] = Unit {0}
EachStands [] (c ∷ cs) = ⊥
EachStands (f ∷ fs) [] = ⊥
EachStands (f ∷ fs) (c ∷ cs) = StandsFor f c × EachStands fs cs

-- The clients stand for these customers: there are as many, and each stands for the one in its place.
abbrev pub Stands : Clients → List Customer → Type 0
Stands clients customers = EachStands clients.followers.items customers
