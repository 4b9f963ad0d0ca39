-- The situation for which a machine stands.
use Rattle.std.specs.Prelude.{◌≡◌, ℕ, List, length, map, Option, IfSome}
use Rattle.std.specs.List.{AllByRecursion}
use Rattle.fold_client.specs.Client.{Says}
use Rattle.fold_client.specs.Following.{Heard}
use Rattle.core_law.specs.Situation.{Options, Shape, Server, Exchange, Customer, Situation}
use Rattle.core_law.specs.Steps.{id_before}
use Rattle.core_law.specs.Laws.{IsStart}
use Rattle.core_law.specs.Reached.{IsReached, AsksOfTable}
use Rattle.core_server.specs.Standing as server
use Rattle.core_exchanges.specs.Standing as exchanges
use Rattle.core_clients.specs.Standing as clients
use Rattle.core_machine.specs.declared.machine.Machine.{Machine}
use Rattle.core_machine.specs.Firsts.{first_asked, AreServed}

-- the body of each reply is read back as what was written
abbrev pub AreSaid : List Exchange → Type 0
AreSaid xs = AllByRecursion (λ (x : Exchange). IfSome x.given (λ (h : Heard). Says h.given.reply.body h.body)) xs

-- each asks for a table that is served and defined, or is refused
abbrev pub AreOfTables : Options → List Exchange → Type 0
AreOfTables o xs = AllByRecursion (λ (x : Exchange). AsksOfTable o x.asked) xs

-- for each number, in order, the id of the last commit before it was registered
abbrev pub lasts_of : Server → List (Option ℕ)
lasts_of v = map (λ (x : Shape). id_before v.commits x.before) v.shapes

-- The machine stands for a situation to which events led: its server, its exchanges and its clients stand for the situation's, the clock is its clock, and the id of the last commit before each number is known.
pub record Stands (o : Options) (s : Situation) (m : Machine) : Type 0 where
  pub start : IsStart o
  pub reached : IsReached o s
  pub server : server.Stands o s.server m.server
  pub exchanges : exchanges.Stands m.exchanges s.exchanges
  pub clients : clients.Stands m.clients s.customers
  pub asks : map first_asked m.asks.items ≡ map (λ (c : Customer). c.asked) s.customers
  pub served : AreServed o.tables m.asks.items
  pub clock : m.clock ≡ s.clock
  pub hold : m.hold ≡ o.limits.hold
  pub lasts : m.lasts.items ≡ lasts_of s.server
  pub said : AreSaid s.exchanges
  pub of_tables : AreOfTables o s.exchanges
  pub defined : length o.catalog ≡ length o.tables

-- It stands for some situation.
pub record IsSituated (m : Machine) : Type 0 where
  pub options : Options
  pub situation : Situation
  pub stands : Stands options situation m
