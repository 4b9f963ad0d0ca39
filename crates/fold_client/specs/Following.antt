-- A client that takes fair replies, one after the other.
use Rattle.std.specs.Prelude.{◌≡◌, ℕ, ◌≤◌, true, List, [], ◌∷◌, Option, None, Some, is_some, unwrap_or}
use Rattle.std.specs.FinMap as fin
use Rattle.shape_base.specs.declared.handle.Handle.{Handle}
use Rattle.shape_base.specs.declared.ask.Ask.{Ask}
use Rattle.shape_base.specs.declared.ask.Named.{Named}
use Rattle.shape_base.specs.declared.ask.Named.TheVariants.{Absent, Known}
use Rattle.shape_base.specs.Log.{fold}
use Rattle.shape_base.specs.Offsets.{upto}
use Rattle.shape_base.specs.RegistryHistory.{was_registered_under}
use Rattle.http_edge.specs.World.{World, Given}
use Rattle.http_edge.specs.Lawful.{Asked, AsksFor}
use Rattle.http_edge.specs.Fair.{IsFair}
use Rattle.http_edge.specs.Reach.{point_at, rows_at, reach_under, whole_log}
use Rattle.fold_client.specs.declared.body.Body.{Body}
use Rattle.fold_client.specs.Client.{Held, nothing_held, Says, Outcome, UpToDate, More, Refetch, ServerRefused, BadReply, ForeignHandle, BadFold, is_above, take_reply}

-- ---- what a client asks

abbrev pub named_by : Option Handle → Named
named_by None = Absent
named_by (Some h) = Known h

-- The request is the client's: of its query's identity, with its handle and its offset, and live with its cursor after a reply that was up to date.
pub record IsAskOf (identity : List ℕ) (c : Held) (ask : Ask) : Type 0 where
  pub identity_is : ask.identity ≡ identity
  pub named : ask.named ≡ named_by c.handle
  pub offset : ask.offset ≡ c.offset
  pub live : ask.live ≡ is_some c.cursor
  pub cursor : ask.cursor ≡ unwrap_or c.cursor 0

-- ---- what it takes

-- a reply that a client takes: what it was given for, and what its body says
pub record Heard : Type 0 where
  pub asked : Asked
  pub given : Given
  pub body : Option Body

-- the reply was given for the request that the client has now, and is fair for it
pub record IsFairFor (w : World) (identity : List ℕ) (c : Held) (x : Heard) : Type 0 where
  pub asks : (ask : Ask) → x.asked ≡ AsksFor ask → IsAskOf identity c ask
  pub fair : IsFair w x.asked x.given
  pub says : Says x.given.reply.body x.body

-- a client, with the commits shown at the replies that ended up to date and that it took under its present handle, the last first
pub record Following : Type 0 where
  pub held : Held
  pub current : List ℕ

abbrev pub start : Following
start = record { held = nothing_held; current = [] }

abbrev pub current_after : Outcome → List ℕ → ℕ → List ℕ
current_after UpToDate current n = n ∷ current
current_after More current n = current
current_after Refetch current n = []
current_after (ServerRefused status) current n = current
current_after BadReply current n = current
current_after (ForeignHandle asked got) current n = current
current_after (BadFold offset key) current n = current

abbrev pub took : Following → Heard → Outcome
took f x = (take_reply f.held x.given.reply x.body).outcome

abbrev pub follow : Following → Heard → Following
follow f x = record { held = (take_reply f.held x.given.reply x.body).held; current = current_after (took f x) f.current x.given.shown }

abbrev pub followed : Following → List Heard → Following
followed f [] = f
followed f (x ∷ xs) = followed (follow f x) xs

-- Each reply is fair for the request that the client then has.
abbrev pub AreFair : World → List ℕ → Following → List Heard → Type 0
AreFair w identity f [] = Unit {0}
AreFair w identity f (x ∷ xs) = IsFairFor w identity f.held x × AreFair w identity (follow f x) xs

-- ---- what it holds

-- between two replies the rows are the fold of the handle's entries up to the offset
abbrev pub HasRows : World → Held → Option Handle → Type 0
HasRows w c None = c.rows ≡ fin.empty
HasRows w c (Some h) = fold (upto c.offset (whole_log w h.number)) ≡ Some c.rows

-- the present handle is above the one that was left
abbrev pub IsAboveLeft : Option Handle → Option Handle → Type 0
IsAboveLeft None left = Unit {0}
IsAboveLeft (Some h) None = Unit {0}
IsAboveLeft (Some h) (Some l) = is_above l h ≡ true

pub record Holds (w : World) (f : Following) : Type 0 where
  pub rows : HasRows w f.held f.held.handle
  pub above : IsAboveLeft f.held.handle f.held.left

abbrev pub IsNotBelow : Option ℕ → ℕ → Type 0
IsNotBelow None r = Unit {0}
IsNotBelow (Some q) r = q ≤ r

-- Up to date: the handle was registered under the client's identity, and the rows are those of its shape after the steps that the client has reached. These are no fewer than the reply's own point, nor than what it had reached before under that handle.
pub record IsCurrent (w : World) (identity : List ℕ) (before after : Following) (n : ℕ) : Type 0 where
  pub handle : Handle
  pub reach : ℕ
  pub under : after.held.handle ≡ Some handle
  pub named : was_registered_under w.events identity handle.number ≡ true
  pub reached : reach_under w after.held.handle after.current ≡ Some reach
  pub taken : point_at w handle.number n ≤ reach
  pub kept : IsNotBelow (reach_under w before.held.handle before.current) reach
  pub rows : rows_at w handle.number reach ≡ Some after.held.rows

-- What an outcome promises. Fair replies are never refused for what they say.
abbrev pub IsRight : World → List ℕ → Following → Following → ℕ → Outcome → Type 0
IsRight w identity before after n UpToDate = IsCurrent w identity before after n
IsRight w identity before after n More = Unit {0}
IsRight w identity before after n Refetch = Unit {0}
IsRight w identity before after n (ServerRefused status) = Unit {0}
IsRight w identity before after n BadReply = ⊥
IsRight w identity before after n (ForeignHandle asked got) = ⊥
IsRight w identity before after n (BadFold offset key) = ⊥
