-- What a request comes to.
use Rattle.std.specs.Prelude.{◌≡◌, ◌<◌, ℕ, ◌+◌, Bool, List, [], ◌∷◌, ◌++◌, length, Option, None, Some}
use Rattle.shape_base.specs.declared.ask.Ask.{Ask}
use Rattle.shape_base.specs.declared.ask.Named.{Named}
use Rattle.shape_base.specs.declared.ask.Named.TheVariants.{Absent, Known, Strange}
use Rattle.shape_base.specs.RegistryHistory.{live_under}
use Rattle.shape_json.specs.ShapeHistory.{Reader}
use Rattle.http_edge.specs.declared.error_code.ErrorCode.{ErrorCode}
use Rattle.http_edge.specs.Lawful.{Asked, Refuses, AsksFor, refusal_to_register}
use Rattle.core_events.specs.declared.out.Out.{Out}
use Rattle.core_law.specs.Situation.{Options, Server, Role, Reads, Waits, Owns, HasNone, Situation, known_of, reader_for}
use Rattle.core_law.specs.Steps.{with_shape, request, settled}
use Rattle.core_law.specs.Clients.{never}
use Rattle.core_exchanges.specs.declared.exchange.Asked as kept
use Rattle.core_exchanges.specs.declared.exchange.Asked.TheVariants as asks
use Rattle.core_exchanges.specs.Standing.{role_of}
use Rattle.core_exchanges.specs.Standing as exchanges
use Rattle.core_server.specs.declared.server.Server.{Server as KeptServer}
use Rattle.core_server.specs.Standing as server
use Rattle.core_machine.specs.declared.opening.Opened.{Opened}
use Rattle.core_machine.specs.declared.machine.Machine.{Machine}
use Rattle.core_machine.specs.Answering.{texts_now}
use Rattle.core_machine.specs.Standing.{lasts_of, Stands}

-- what is asked for is of a served table
abbrev pub IsServedBy : KeptServer → kept.Asked → Type 0
IsServedBy v (asks.Refused code) = Unit {0}
IsServedBy v (asks.AsksFor ask) = ask.table < length v.tables

abbrev pub IsServed : Machine → kept.Asked → Type 0
IsServed m asked = IsServedBy m.server asked

-- A request's role, its refusal, and the server after it.
pub record Opening : Type 0 where
  pub role : Role
  pub refusal : Option ErrorCode
  pub server : Server

abbrev pub registered : Server → Ask → Option Reader → Opening
registered v ask None = record { role = Reads; refusal = None; server = v }
registered v ask (Some reader) = record { role = Owns (length v.shapes + 1); refusal = None; server = with_shape v ask reader }

abbrev pub unless_refused : Options → Server → Ask → Option ErrorCode → Opening
unless_refused o v ask (Some code) = record { role = Reads; refusal = Some code; server = v }
unless_refused o v ask None = registered v ask (reader_for o v.registry ask)

abbrev pub first_of : Options → Server → Ask → Option ℕ → Opening
first_of o v ask (Some n) = record { role = Waits n; refusal = None; server = v }
first_of o v ask None = unless_refused o v ask (refusal_to_register (known_of o v) v.registry ask)

abbrev pub named_of : Options → Server → Ask → Named → Opening
named_of o v ask Absent = first_of o v ask (live_under v.registry ask.identity)
named_of o v ask (Known h) = record { role = Reads; refusal = None; server = v }
named_of o v ask Strange = record { role = Reads; refusal = None; server = v }

-- What a request comes to.
abbrev pub opening_of : Options → Server → Asked → Opening
opening_of o v (Refuses code) = record { role = Reads; refusal = None; server = v }
opening_of o v (AsksFor ask) = named_of o v ask ask.named

-- the role and the refusal are the request's, and the server stands for the one after it
pub record IsOpened (o : Options) (opening : Opening) (new : KeptServer) (opened : Opened) : Type 0 where
  pub role : role_of opened.role ≡ opening.role
  pub refusal : opened.refusal ≡ opening.refusal
  pub stands : server.Stands o opening.server new

abbrev pub Opens : KeptServer → KeptServer → (Options → Server → Opening) → Opened → Type 0
Opens old new opening opened = (o : Options) (v : Server) → server.Stands o v old → IsOpened o (opening o v) new opened

-- the last commit is noted for a number that was registered
abbrev pub noted : List (Option ℕ) → Role → Option ℕ → List (Option ℕ)
noted lasts Reads last = lasts
noted lasts (Waits n) last = lasts
noted lasts (Owns n) last = lasts ++ last ∷ []
noted lasts HasNone last = lasts

-- An exchange more was made and answered: it has the next place, the server and the exchanges stand for those after the request, and what was put out is that exchange's reply.
pub record IsRequested (o : Options) (s t : Situation) (old new : Machine) (before now : List Out) (index : ℕ) : Type 0 where
  pub index_is : index ≡ length s.exchanges
  pub server : server.Stands o t.server new.server
  pub exchanges : exchanges.Stands new.exchanges (settled o never t).exchanges
  pub outs : now ≡ before ++ texts_now 0 s.exchanges (settled o never t).exchanges
  pub lasts : new.lasts.items ≡ lasts_of t.server

-- the clients, what they ask, and the clock are as they were
pub record SparesClients (old new : Machine) : Type 0 where
  pub clients : new.clients ≡ old.clients
  pub asks : new.asks ≡ old.asks
  pub clock : new.clock ≡ old.clock
  pub hold : new.hold ≡ old.hold

-- For each situation for which the machine stood.
abbrev pub Requests : Machine → Machine → Bool → Option (List ℕ) → Asked → Bool → List Out → List Out → ℕ → Type 0
Requests old new outside target asked close before now index = (o : Options) (s : Situation) → Stands o s old → IsRequested o s (request o s outside target asked close) old new before now index
