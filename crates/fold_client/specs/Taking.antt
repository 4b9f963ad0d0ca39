-- What a call of the client is of the definitions.
use Rattle.std.specs.Prelude.{◌≡◌, ℕ, List, None, Result, Ok, Err, ◌⊎◌}
use Rattle.shape_base.specs.declared.reply.Reply.{Reply}
use Rattle.http_edge.specs.World.{World, IsGoodWorld}
use Rattle.fold_client.specs.declared.client.Client.{Client}
use Rattle.fold_client.specs.declared.client.Taken.{Taken}
use Rattle.fold_client.specs.declared.client.Taken.TheVariants.{UpToDate, More, Refetch}
use Rattle.fold_client.specs.declared.client.TakeError.{TakeError}
use Rattle.fold_client.specs.declared.client.TakeError.TheVariants.{BadReply, ForeignHandle, BadFold, ServerRefused, OutOfMemory}
use Rattle.fold_client.specs.Client.{Held, After, left_by, begun_anew, take_reply}
use Rattle.fold_client.specs.Client as law
use Rattle.fold_client.specs.Following.{Heard, IsFairFor, Following, start, follow, followed, AreFair, IsCurrent}

-- what a client holds
abbrev pub held_by : Client → Held
held_by c = record { handle = c.handle; left = c.left; offset = c.offset; cursor = c.cursor; rows = c.rows }

-- without memory it is as it was, or has started again without a handle
abbrev pub Spares : Held → Held → Type 0
Spares before now = (now ≡ before) ⊎ (now ≡ begun_anew (left_by before.handle before.left) None)

-- The call's answer and what the client holds then are those of the definition; a refusal leaves what it holds.
abbrev pub Meets : After → Held → Result Taken TakeError → Held → Type 0
Meets after before (Ok UpToDate) now = after ≡ record { held = now; outcome = law.UpToDate }
Meets after before (Ok More) now = after ≡ record { held = now; outcome = law.More }
Meets after before (Ok Refetch) now = after ≡ record { held = now; outcome = law.Refetch }
Meets after before (Err BadReply) now = (after ≡ record { held = now; outcome = law.BadReply }) × (now ≡ before)
Meets after before (Err (ForeignHandle asked got)) now = (after ≡ record { held = now; outcome = law.ForeignHandle asked got }) × (now ≡ before)
Meets after before (Err (BadFold offset key)) now = (after ≡ record { held = now; outcome = law.BadFold offset key }) × (now ≡ before)
Meets after before (Err (ServerRefused status)) now = (after ≡ record { held = now; outcome = law.ServerRefused status }) × (now ≡ before)
Meets after before (Err OutOfMemory) now = Spares before now

-- The answer is right: up to date means current, and a fair reply is never refused for what it says. What the client holds is what the definition says.
abbrev pub IsRightly : World → List ℕ → Following → Following → ℕ → Held → Result Taken TakeError → Held → Type 0
IsRightly w identity old next n before (Ok UpToDate) now = IsCurrent w identity old next n × (now ≡ next.held)
IsRightly w identity old next n before (Ok More) now = now ≡ next.held
IsRightly w identity old next n before (Ok Refetch) now = now ≡ next.held
IsRightly w identity old next n before (Err BadReply) now = ⊥
IsRightly w identity old next n before (Err (ForeignHandle asked got)) now = ⊥
IsRightly w identity old next n before (Err (BadFold offset key)) now = ⊥
IsRightly w identity old next n before (Err (ServerRefused status)) now = (now ≡ before) × (now ≡ next.held)
IsRightly w identity old next n before (Err OutOfMemory) now = Spares before now

-- The law at this call, in each good world in which the client took fair replies so far and this one is fair for its request.
abbrev pub IsLawfulTake : Held → Reply → Result Taken TakeError → Held → Type 0
IsLawfulTake before reply result now = (w : World) (identity : List ℕ) (xs : List Heard) (x : Heard) → IsGoodWorld w → AreFair w identity start xs → before ≡ (followed start xs).held → x.given.reply ≡ reply → IsFairFor w identity before x
    → IsRightly w identity (followed start xs) (follow (followed start xs) x) x.given.shown before result now
