-- What one client of a program does with a reply.
use Rattle.std.specs.Prelude.{◌≡◌, ℕ, Option}
use Rattle.shape_base.specs.declared.reply.Reply.{Reply}
use Rattle.fold_client.specs.declared.body.Body.{Body}
use Rattle.fold_client.specs.Client.{Held, Says, take_reply}
use Rattle.core_clients.specs.declared.follower.Received.{Received}
use Rattle.core_clients.specs.Taking.{IsReceived, SparesOrTook}

-- it took the reply, and this comes of it
abbrev pub TookIt : ℕ → Held → Reply → Held → Received → Type 0
TookIt n before reply now r = (body : Option Body) → Says reply.body body → IsReceived n (take_reply before reply body) r × (now ≡ (take_reply before reply body).held)

-- without memory
abbrev pub LostIt : Held → Reply → Held → Type 0
LostIt before reply now = (body : Option Body) → Says reply.body body → SparesOrTook before (take_reply before reply body) now
