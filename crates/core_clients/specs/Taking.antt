-- What a client makes of a reply.
use Rattle.std.specs.Prelude.{◌≡◌, ◌⊎◌, ℕ, zero, suc, List, [], ◌∷◌, Option, None, Some, slice_get}
use Rattle.shape_base.specs.declared.reply.Reply.{Reply}
use Rattle.fold_client.specs.Client.{Held, After, Says, take_reply}
use Rattle.fold_client.specs.Following.{Heard}
use Rattle.fold_client.specs.Taking.{held_by, Spares}
use Rattle.core_law.specs.Situation.{Customer, held_of}
use Rattle.core_law.specs.Steps.{change_at}
use Rattle.core_law.specs.Clients.{out_of, goes_on, took_one}
use Rattle.core_clients.specs.declared.follower.Follower.{Follower}
use Rattle.core_clients.specs.declared.follower.Received.{Received}
use Rattle.core_clients.specs.declared.clients.Clients.{Clients}
use Rattle.core_clients.specs.Outs.{AreOfClient}
use Rattle.core_clients.specs.Standing.{StandsFor, EachStands, Stands}

-- what is put out, and whether a watch goes on, are those of what the client makes of the reply
pub record IsReceived (n : ℕ) (after : After) (r : Received) : Type 0 where
  pub outs : AreOfClient (out_of n after.held after.outcome) r.outs
  pub goes : r.goes_on ≡ goes_on after.outcome

abbrev pub after_of : Customer → Heard → After
after_of c h = take_reply (held_of c) h.given.reply h.body

-- nothing comes of a reply exactly where there is no such client
abbrev pub IsReceivedBy : ℕ → Heard → Option Customer → Option Received → Type 0
IsReceivedBy n h None None = Unit {0}
IsReceivedBy n h None (Some r) = ⊥
IsReceivedBy n h (Some c) None = ⊥
IsReceivedBy n h (Some c) (Some r) = IsReceived n (after_of c h) r

-- the reply, with what its body says
pub record IsHeard (reply : Reply) (h : Heard) : Type 0 where
  pub reply_is : h.given.reply ≡ reply
  pub says : Says reply.body h.body

-- The client of this number takes the reply: for all customers for which the clients stood, they stand for these after it, and what comes of it is the definition's.
abbrev pub Takes : Clients → Clients → ℕ → Reply → Option Received → Type 0
Takes olds news n reply found = (customers : List Customer) (h : Heard) → Stands olds customers → IsHeard reply h
    → IsReceivedBy n h (slice_get customers n) found × Stands news (change_at (took_one h) customers n)

-- ---- without memory

-- it is as it was, has started again without a handle, or has taken the reply
abbrev pub SparesOrTook : Held → After → Held → Type 0
SparesOrTook before after now = Spares before now ⊎ (now ≡ after.held)

-- its query and its open exchange are as they were
pub record IsSpared (h : Heard) (f : Follower) (c : Customer) : Type 0 where
  pub query : f.client.query ≡ c.query
  pub held : SparesOrTook (held_of c) (after_of c h) (held_by f.client)
  pub waiting : f.waiting ≡ c.waiting

-- all stand but the one in this place, which is spared
abbrev pub EachSpared : Heard → List Follower → List Customer → ℕ → Type 0
EachSpared h [] [] n = Unit {0}
EachSpared h [] (c ∷ cs) n = ⊥
EachSpared h (f ∷ fs) [] n = ⊥
EachSpared h (f ∷ fs) (c ∷ cs) zero = IsSpared h f c × EachStands fs cs
EachSpared h (f ∷ fs) (c ∷ cs) (suc n) = StandsFor f c × EachSpared h fs cs n

-- Without memory all other clients are as they were, and the one that was to take the reply is spared.
abbrev pub Loses : Clients → Clients → ℕ → Reply → Type 0
Loses olds news n reply = (customers : List Customer) (h : Heard) → Stands olds customers → IsHeard reply h → EachSpared h news.followers.items customers n
