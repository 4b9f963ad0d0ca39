-- What holds of each situation that events lead to, as a machine needs it.
use Rattle.std.specs.Prelude.{◌≡◌, ℕ, ◌≤◌, ◌<◌, Bool, true, false, List, [], ◌∷◌, length, None, Some, IfSome, slice_get}
use Rattle.std.specs.List.{list_all, AllByRecursion}
use Rattle.shape_base.specs.declared.ask.Ask.{Ask}
use Rattle.shape_base.specs.declared.reply.Reply.{Reply}
use Rattle.shape_base.specs.Handle.{IsHandle}
use Rattle.shape_base.specs.RegistryHistory.{was_registered, is_live}
use Rattle.shape_json.specs.Reading.{HaveOffsets}
use Rattle.http_edge.specs.Status.{is_status}
use Rattle.http_edge.specs.ReplyText.{is_visible}
use Rattle.http_edge.specs.Lawful.{Asked, Refuses, AsksFor}
use Rattle.fold_client.specs.Client.{Says}
use Rattle.core_law.specs.Situation.{Options, Server, shape_at, log_of_shape, Role, Reads, Waits, Owns, HasNone, Exchange, Situation, at_start}
use Rattle.core_law.specs.Steps.{Written, reply_now}
use Rattle.core_law.specs.Run.{Event, turn_of, next_of, after}
use Rattle.core_law.specs.Laws.{IsStart}
use Rattle.core_law.specs.Waiting.{awaited, IsAsBefore}

-- some events lead to it
pub record IsReached (o : Options) (s : Situation) : Type 0 where
  pub events : List Event
  pub is : s ≡ after o at_start events

-- what `http_edge::write_reply` asks of a reply
pub record HasText (r : Reply) : Type 0 where
  pub status : is_status r.status ≡ true
  pub handle : IfSome r.handle IsHandle
  pub schema : IfSome r.schema (λ schema. list_all is_visible schema ≡ true)

-- Each reply that an exchange gets can be written.
abbrev pub RepliesHaveTexts : Type 0
RepliesHaveTexts = (o : Options) (s : Situation) (late : Bool) (asked : Asked) (role : Role) (w : Written) → IsStart o → IsReached o s → reply_now o s.server late asked role ≡ Some w → HasText w.reply

-- the offsets of the log of each live number have 64 bits
abbrev pub HaveShortLogs : Server → Type 0
HaveShortLogs v = (number : ℕ) → is_live v.registry number ≡ true → HaveOffsets (log_of_shape (shape_at v.shapes number))

-- The body of each reply that an exchange gets is read back as what was written.
abbrev pub RepliesSay : Type 0
RepliesSay = (o : Options) (s : Situation) (late : Bool) (asked : Asked) (role : Role) (w : Written) → IsStart o → IsReached o s → HaveShortLogs s.server → reply_now o s.server late asked role ≡ Some w → Says w.reply.body w.body

-- each came no later than those behind it
abbrev pub MomentsRise : List Exchange → Type 0
MomentsRise [] = Unit {0}
MomentsRise (x ∷ xs) = AllByRecursion (λ (y : Exchange). x.moment ≤ y.moment) xs × MomentsRise xs

-- The moments of exchanges rise.
abbrev pub ExchangesRise : Type 0
ExchangesRise = (o : Options) (s : Situation) → IsReached o s → MomentsRise s.exchanges

-- a table that is asked for is served, and has a first definition
pub record HasTable (o : Options) (ask : Ask) : Type 0 where
  pub served : ask.table < length o.tables
  pub defined : ask.table < length o.catalog

abbrev pub AsksOfTable : Options → Asked → Type 0
AsksOfTable o (Refuses code) = Unit {0}
AsksOfTable o (AsksFor ask) = HasTable o ask

-- An exchange without a reply gets none by an event that changes nothing of the number that it awaits, unless it is late.
abbrev pub OthersWait : Type 0
OthersWait = (o : Options) (s : Situation) (e : Event) (place : ℕ) (x : Exchange) → IsStart o → IsReached o s → slice_get s.exchanges place ≡ Some x → x.given ≡ None → AsksOfTable o x.asked
    → ((n : ℕ) → awaited x.asked x.role ≡ Some n → IsAsBefore s.server (next_of s (turn_of o s e)).server n) → reply_now o (next_of s (turn_of o s e)).server false x.asked x.role ≡ None

-- a number that an exchange found or registered was registered
abbrev pub WasGiven : Server → Role → Type 0
WasGiven v Reads = Unit {0}
WasGiven v (Waits n) = was_registered v.registry n ≡ true
WasGiven v (Owns n) = was_registered v.registry n ≡ true
WasGiven v HasNone = Unit {0}

-- The number in each role was registered.
abbrev pub RolesAreGiven : Type 0
RolesAreGiven = (o : Options) (s : Situation) → IsReached o s → AllByRecursion (λ (x : Exchange). WasGiven s.server x.role) s.exchanges
