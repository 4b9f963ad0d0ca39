-- What the replies and the blocks of a run owe a history.
use Rattle.std.specs.Prelude.{◌≡◌, ℕ, true, false, List, [], ◌∷◌, ◌++◌, length, take, map, Option, None, Some, IfSome, IsSomeAnd, slice_get, Ok}
use Rattle.std.specs.List.{AllByRecursion}
use Rattle.std.specs.Option.{option_map}
use Rattle.std.specs.FinMap as fin
use Rattle.shape_base.specs.declared.definition.TableDef.{TableDef}
use Rattle.shape_base.specs.declared.offset.Offset.{Offset}
use Rattle.shape_base.specs.declared.handle.Handle.{Handle}
use Rattle.shape_base.specs.declared.history.History.{History}
use Rattle.shape_base.specs.declared.ask.Ask.{Ask}
use Rattle.shape_base.specs.Handle.{is_run}
use Rattle.shape_base.specs.Tables.{IsGoodHistory, commits_of}
use Rattle.shape_base.specs.Transactions.{meaning}
use Rattle.shape_base.specs.Snapshot.{Snapshot, IsHonest}
use Rattle.shape_base.specs.Shape.{Keyed}
use Rattle.shape_base.specs.Log.{log_of}
use Rattle.shape_base.specs.RegistryHistory.{had_ready, removal_of, was_registered_under}
use Rattle.shape_json.specs.Reading.{HaveOffsets}
use Rattle.shape_json.specs.ShapeHistory.{snapshot_in, drop_of}
use Rattle.shape_registry.specs.Registry.{ArePlaced}
use Rattle.http_edge.specs.World.{World}
use Rattle.http_edge.specs.Lawful.{Asked, AsksFor, IsLawful}
use Rattle.http_edge.specs.Fair.{IsFair}
use Rattle.http_edge.specs.declared.request.Request.{Request}
use Rattle.http_edge.specs.Route.{IsRouted}
use Rattle.fold_client.specs.declared.client.Query.{Query}
use Rattle.fold_client.specs.Client.{nothing_held, Says}
use Rattle.fold_client.specs.Following.{Heard, start, followed, IsCurrent}
use Rattle.fold_client.specs.Target.{target_text}
use Rattle.fold_client.specs.TargetRead.{HasTarget}
use Rattle.core_law.specs.Situation.{Options, Shape, Server, shape_at, Exchange, Customer, Situation, at_start, world_of, reader_under, held_of, identity_of}
use Rattle.core_law.specs.Steps.{reply_now}
use Rattle.core_law.specs.Clients.{Out, Gives, Cut, Block, Refetched, Refused}
use Rattle.core_law.specs.Run.{Event, RequestCame, HeadCut, SnapshotCame, SnapshotEnded, Committed, Remove, Moment, Joined, SendNext, Receive, Watch, after, told}

-- ---- the premises

-- The name of the run is one of a handle, and each first definition is of the table in its place.
pub record IsStart (o : Options) : Type 0 where
  pub run : is_run o.run ≡ true
  pub placed : ArePlaced o.catalog

-- a GET of that target
abbrev pub get_of : List ℕ → Request
get_of target = record { length = 0; get = true; target = target; close = false }

-- What a target asks for is what a GET of it is answered.
abbrev pub IsRead : Options → Option (List ℕ) → Asked → Type 0
IsRead o target asked = (ask : Ask) → asked ≡ AsksFor ask → IsSomeAnd target (λ text. IsRouted o.tables (get_of text) (Ok ask))

-- A client's query has texts, and what its first target asks for is what a GET of it is answered.
pub record IsFirst (o : Options) (query : Query) (asked : Asked) : Type 0 where
  pub texts : HasTarget query nothing_held
  pub read : IsRead o (Some (target_text query nothing_held)) asked

-- What an event's target asks for, and what a client's first one does, is what reading it gives.
abbrev pub IsRoutedEvent : Options → Event → Type 0
IsRoutedEvent o (RequestCame target asked close) = IsRead o target asked
IsRoutedEvent o HeadCut = Unit {0}
IsRoutedEvent o (SnapshotCame e snapshot) = Unit {0}
IsRoutedEvent o (SnapshotEnded e fault) = Unit {0}
IsRoutedEvent o (Committed txs) = Unit {0}
IsRoutedEvent o (Remove n) = Unit {0}
IsRoutedEvent o (Moment now) = Unit {0}
IsRoutedEvent o (Joined query asked) = IsFirst o query asked
IsRoutedEvent o (SendNext n) = Unit {0}
IsRoutedEvent o (Receive n e) = Unit {0}
IsRoutedEvent o (Watch n) = Unit {0}

-- A number that became ready: its snapshot is honest for its step and for the commits shown before it was registered, and the offsets of its logs have 64 bits.
pub record IsHonestShape (h : History) (step : ℕ) (x : Shape) (snapshot : Snapshot) : Type 0 where
  pub honest : IsHonest h x.reader.knows.definition.table snapshot step x.before
  pub offsets : (n : ℕ) → HaveOffsets (log_of h x.reader.knows snapshot.rows step n)

abbrev pub AreHonest : History → (ℕ → ℕ) → Server → Type 0
AreHonest h step v = (number : ℕ) (x : Shape) (snapshot : Snapshot) → had_ready v.registry number ≡ true → shape_at v.shapes number ≡ Some x → snapshot_in x.events ≡ Some snapshot → IsHonestShape h (step number) x snapshot

-- What a history and a step for each number owe a run: the history is good and of the served tables, its first commits do what those shown do, and the snapshots that became ready are honest.
pub record IsTold (o : Options) (h : History) (step : ℕ → ℕ) (v : Server) : Type 0 where
  pub good : IsGoodHistory h
  pub tables : h.tables ≡ o.tables
  pub shows : map meaning (take (length v.commits) (commits_of h.steps)) ≡ map meaning v.commits
  pub honest : AreHonest h step v

-- ---- replies

abbrev pub IsLawfulExchange : World → Exchange → Type 0
IsLawfulExchange w x = IfSome x.given (λ heard. IsLawful w x.asked heard.given)

-- Each reply given is lawful, in the world that the run's last server tells.
abbrev pub RepliesAreLawful : Type 0
RepliesAreLawful = (o : Options) (h : History) (step : ℕ → ℕ) (events : List Event) → IsStart o → IsTold o h step (after o at_start events).server
    → AllByRecursion (IsLawfulExchange (world_of o h step (after o at_start events).server)) (after o at_start events).exchanges

-- the reply is fair, and its body says what was written
pub record IsFairReply (w : World) (asked : Asked) (heard : Heard) : Type 0 where
  pub asks : heard.asked ≡ asked
  pub fair : IsFair w asked heard.given
  pub says : Says heard.given.reply.body heard.body

abbrev pub IsFairExchange : World → Exchange → Type 0
IsFairExchange w x = IfSome x.given (IsFairReply w x.asked)

-- Each reply given is fair.
abbrev pub RepliesAreFair : Type 0
RepliesAreFair = (o : Options) (h : History) (step : ℕ → ℕ) (events : List Event) → IsStart o → IsTold o h step (after o at_start events).server
    → AllByRecursion (IsFairExchange (world_of o h step (after o at_start events).server)) (after o at_start events).exchanges

-- what may stand in an exchange's place later: the reply stays once it is given
abbrev pub StaysGiven : Option Heard → Option Exchange → Type 0
StaysGiven None later = Unit {0}
StaysGiven (Some heard) later = IsSomeAnd later (λ x. x.given ≡ Some heard)

-- A reply that was given stays as it is, whatever comes later.
abbrev pub RepliesStay : Type 0
RepliesStay = (o : Options) (events later : List Event) (e : ℕ) (x : Exchange) → slice_get (after o at_start events).exchanges e ≡ Some x → StaysGiven x.given (slice_get (after o at_start (events ++ later)).exchanges e)

-- each exchange without a reply has none to get
abbrev pub AreSettled : Options → Situation → Type 0
AreSettled o s = AllByRecursion (λ (x : Exchange). x.given ≡ None → reply_now o s.server false x.asked x.role ≡ None) s.exchanges

-- After each event all exchanges that can be answered are answered.
abbrev pub AnsweredAtOnce : Type 0
AnsweredAtOnce = (o : Options) (events : List Event) → AreSettled o (after o at_start events)

-- ---- drops

-- A number is removed exactly where the events of its shape drop it, and for the cause that they say.
abbrev pub DropsExactly : Type 0
DropsExactly = (o : Options) (events : List Event) → IsStart o → (number : ℕ) (x : Shape) → shape_at (after o at_start events).server.shapes number ≡ Some x
    → option_map (λ r. r.cause) (removal_of (after o at_start events).server.registry number) ≡ drop_of x.reader o.limits x.events

-- ---- blocks

-- The client is up to date, and its rows are those of its shape after the steps that it has reached: no fewer than the point of the reply that it took last, and than what it had reached before under its handle.
pub record IsRightBlock (w : World) (c : Customer) (handle : Option Handle) (offset : Offset) (rows : List Keyed) : Type 0 where
  pub earlier : List Heard
  pub last : Heard
  pub took : c.took ≡ earlier ++ last ∷ []
  pub current : IsCurrent w (identity_of c) (followed start earlier) (followed start c.took) last.given.shown
  pub names : handle ≡ (held_of c).handle
  pub ends : offset ≡ (held_of c).offset
  pub are : rows ≡ fin.entries (held_of c).rows

abbrev pub IsRightOut : World → Out × Situation → Type 0
IsRightOut w (Gives e heard, s) = Unit {0}
IsRightOut w (Cut e, s) = Unit {0}
IsRightOut w (Block n handle offset rows, s) = IsSomeAnd (slice_get s.customers n) (λ c. IsRightBlock w c handle offset rows)
IsRightOut w (Refetched n, s) = Unit {0}
IsRightOut w (Refused n status, s) = Unit {0}

-- The shape of a number that is registered under an identity is that of a request with this identity: it reads rows by what the request's definition knows, under some definition of its table.
pub record IsOfRequest (o : Options) (v : Server) (identity : List ℕ) (number : ℕ) : Type 0 where
  pub shape : Shape
  pub there : shape_at v.shapes number ≡ Some shape
  pub identity_is : shape.ask.identity ≡ identity
  pub definition : TableDef
  pub reads : reader_under o shape.ask definition ≡ Some shape.reader

abbrev pub AreOfRequests : Options → Server → Type 0
AreOfRequests o v = (identity : List ℕ) (number : ℕ) → was_registered_under v.registry identity number ≡ true → IsOfRequest o v identity number

-- The headline over events: each block has the rows of the table after the client's reach that the shape of its identity selects.
abbrev pub Headline : Type 0
Headline = (o : Options) (h : History) (step : ℕ → ℕ) (events : List Event) → IsStart o → AllByRecursion (IsRoutedEvent o) events → IsTold o h step (after o at_start events).server
    → AllByRecursion (IsRightOut (world_of o h step (after o at_start events).server)) (told o at_start events) × AreOfRequests o (after o at_start events).server
