-- The situation of a server and of those who ask it: only what cannot be worked out of the rest.
use Rattle.std.specs.Prelude.{ℕ, zero, suc, Bool, List, [], Option, None, Some, is_some, unwrap_or, slice_get, Result, Ok, Err}
use Rattle.std.specs.Option.{option_map, option_and_then}
use Rattle.shape_base.specs.declared.entry.Entry.{Entry}
use Rattle.shape_base.specs.declared.change.Tx.{Tx}
use Rattle.shape_base.specs.declared.definition.TableDef.{TableDef}
use Rattle.shape_base.specs.declared.served.Served.{Served}
use Rattle.shape_base.specs.declared.limits.Limits.{Limits}
use Rattle.shape_base.specs.declared.ask.Ask.{Ask}
use Rattle.shape_base.specs.declared.history.History.{History}
use Rattle.shape_base.specs.declared.registry_event.RegistryEvent.{RegistryEvent}
use Rattle.shape_base.specs.Snapshot.{Snapshot}
use Rattle.shape_base.specs.RegistryHistory.{RegistryStart, definition_after}
use Rattle.shape_json.specs.ShapeHistory.{Reader, ShapeEvent, snapshot_in, log_after}
use Rattle.shape_json.specs.Answer as answers
use Rattle.where_grammar.specs.Tree.{Tree}
use Rattle.where_grammar.specs.Clause.{canonical_text}
use Rattle.where_parser.specs.declared.parsing.ParseError.{ParseError}
use Rattle.shape_def.specs.Clauses.{answer_in, unread_under}
use Rattle.shape_def.specs.Identity.{identity}
use Rattle.shape_def.specs.Definition.{knows_for}
use Rattle.http_edge.specs.World.{Kept, World}
use Rattle.http_edge.specs.Lawful.{Asked, Refuses, AsksFor}
use Rattle.http_edge.specs.Route.{table_name, names_of}
use Rattle.fold_client.specs.declared.client.Query.{Query}
use Rattle.fold_client.specs.Client.{Held}
use Rattle.fold_client.specs.Following.{Heard, named_by, start, followed}
use Rattle.fold_client.specs.Target.{target_text}

-- What a run of the server is started with: its name, its limits, the served tables, and their first definitions.
pub record Options : Type 0 where
  pub run : List ℕ
  pub limits : Limits
  pub tables : List Served
  pub catalog : List TableDef

-- A shape: the request that registered it, by what it reads rows, how many commits had been shown then, and its events.
pub record Shape : Type 0 where
  pub ask : Ask
  pub reader : Reader
  pub before : ℕ
  pub events : List ShapeEvent

-- The server: its registry's events, the commits shown so far, and the shapes; the shape of number i stands in place i - 1.
pub record Server : Type 0 where
  pub registry : List RegistryEvent
  pub commits : List Tx
  pub shapes : List Shape

abbrev pub shape_at : List Shape → ℕ → Option Shape
shape_at shapes zero = None
shape_at shapes (suc i) = slice_get shapes i

-- What an exchange's reply comes from: its request alone, a number that it found starting or registered, or nothing, since its head was cut off.
pub data Role : Type 0 where
  Reads : Role
  Waits : (number : ℕ) → Role
  Owns : (number : ℕ) → Role
  HasNone : Role

-- An exchange: whether it came from outside, so that its reply is put out, or is a client's; its target, where its head has one; what that asks for; whether its connection ends with the reply; the moment at which it came; its role; and its reply with what the body says.
pub record Exchange : Type 0 where
  pub outside : Bool
  pub target : Option (List ℕ)
  pub asked : Asked
  pub close : Bool
  pub moment : ℕ
  pub role : Role
  pub given : Option Heard

-- A client: its query, what its first target asks for, its open exchange, and the replies that it took.
pub record Customer : Type 0 where
  pub query : Query
  pub asked : Asked
  pub waiting : Option ℕ
  pub took : List Heard

pub record Situation : Type 0 where
  pub server : Server
  pub exchanges : List Exchange
  pub customers : List Customer
  pub clock : ℕ

abbrev pub at_start : Situation
at_start = record { server = record { registry = []; commits = []; shapes = [] }; exchanges = []; customers = []; clock = 0 }

-- ---- what is worked out

-- a snapshot's log and the commits past it; nothing before the snapshot
abbrev pub log_by : Reader → Option Snapshot → List ShapeEvent → List Entry
log_by r None events = []
log_by r (Some snapshot) events = log_after r.knows snapshot events

-- The log of a shape after its events.
abbrev pub log_of_shape : Option Shape → List Entry
log_of_shape None = []
log_of_shape (Some x) = log_by x.reader (snapshot_in x.events) x.events

-- what is answered from: the registry's events, and the log of each shape
abbrev pub answers_from : Options → Server → Bool → answers.Situation
answers_from o v late = record { run = o.run; events = v.registry; log = λ number. log_of_shape (shape_at v.shapes number); late = late; chunk = o.limits.chunk }

abbrev pub registry_start : Options → RegistryStart
registry_start o = record { run = o.run; limit = o.limits.shapes; catalog = o.catalog }

-- a shape as the client's law sees it, with its snapshot taken at a step
abbrev pub kept_by : Reader → ℕ → Option Snapshot → Option Kept
kept_by r step None = None
kept_by r step (Some snapshot) = Some (record { knows = r.knows; snapshot = snapshot.rows; step = step })

abbrev pub kept_of : ℕ → Option Shape → Option Kept
kept_of step None = None
kept_of step (Some x) = kept_by x.reader step (snapshot_in x.events)

-- The server over a history, as the laws of replies see it; the snapshot of each number is taken at a step.
abbrev pub world_of : Options → History → (ℕ → ℕ) → Server → World
world_of o h step v = record { history = h; start = registry_start o; events = v.registry; shapes = λ number. kept_of (step number) (shape_at v.shapes number); chunk = o.limits.chunk }

-- what the server itself knows: the tables without a history
abbrev pub known_of : Options → Server → World
known_of o v = world_of o (record { tables = o.tables; defs = []; base = []; steps = [] }) (λ _. 0) v

abbrev pub reader_under : Options → Ask → TableDef → Option Reader
reader_under o ask d = option_map (λ knows. record { knows = knows; unread = unread_under knows.definition.columns ask.clause }) (knows_for o.tables ask.table d ask.columns ask.clause)

-- By what the shape of a request reads rows, under the catalogue's definition of its table; nothing where that definition is refused.
abbrev pub reader_for : Options → List RegistryEvent → Ask → Option Reader
reader_for o events ask = option_and_then (reader_under o ask) (definition_after o.catalog events ask.table)

-- what a client holds
abbrev pub held_of : Customer → Held
held_of c = (followed start c.took).held

-- the text of its next target
abbrev pub next_target : Customer → List ℕ
next_target c = target_text c.query (held_of c)

-- what asks for a part of a table, asked from where a client stands
abbrev pub placed : Held → Asked → Asked
placed c (Refuses code) = Refuses code
placed c (AsksFor ask) = AsksFor (record ask { named = named_by c.handle; offset = c.offset; live = is_some c.cursor; cursor = unwrap_or c.cursor 0 })

-- What its next target asks for.
abbrev pub next_asked : Customer → Asked
next_asked c = placed (held_of c) c.asked

-- the canonical text of a clause, where it has one
abbrev pub canonical_in : Result Tree ParseError → Option (List ℕ)
canonical_in (Ok tree) = Some (canonical_text tree)
canonical_in (Err error) = None

abbrev pub canonical_of : Option (List ℕ) → Option (List ℕ)
canonical_of None = None
canonical_of (Some text) = canonical_in (answer_in text)

-- the identity of what a query asks for
abbrev pub query_identity : Query → List ℕ
query_identity q = identity (record { ns = (table_name q.table).0; name = (table_name q.table).1; columns = names_of q.columns; clause = canonical_of q.clause })

abbrev pub identity_of : Customer → List ℕ
identity_of c = query_identity c.query
