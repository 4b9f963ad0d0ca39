-- What a server keeps, and the situation for which it stands.
use Rattle.std.specs.Prelude.{◌≡◌, ℕ, ◌≤◌, ◌<◌, Bool, true, false, List, [], length, None, Some, IfSome, IsSomeAnd, is_some, slice_get}
use Rattle.std.specs.FinMap as fin
use Rattle.shape_base.specs.declared.definition.TableDef.{TableDef}
use Rattle.shape_base.specs.declared.served.Served.{Served}
use Rattle.shape_base.specs.declared.limits.Limits.{Limits}
use Rattle.shape_base.specs.Shape.{Knows}
use Rattle.shape_base.specs.RegistryHistory as histories
use Rattle.shape_base.specs.RegistryHistory.{registrations, was_registered, was_removed, had_ready}
use Rattle.shape_def.specs.declared.defining.Def.{Def}
use Rattle.shape_def.specs.Clauses.{unread_under}
use Rattle.shape_def.specs.Definition.{knows_of}
use Rattle.shape_json.specs.ShapeHistory.{Reader, snapshot_in, drop_of}
use Rattle.shape_json.specs.ShapeHistory as shapes
use Rattle.shape_def.specs.contracts.defining.DefRowTest.TheImpl.{ghosts}
use Rattle.shape_registry.specs.Registry.{ArePlaced}
use Rattle.shape_state.specs.declared.shape.Shape as kept
use Rattle.shape_state.specs.Standing as shape
use Rattle.core_law.specs.Situation.{Options, Shape, shape_at, registry_start}
use Rattle.core_law.specs.Situation as law
use Rattle.core_law.specs.Steps.{all_bytes}
use Rattle.core_server.specs.declared.server.Server.{Server}

-- what a server is started with
abbrev pub options_of : Limits → List Served → List TableDef → List ℕ → Options
options_of limits tables catalog run = record { run = run; limits = limits; tables = tables; catalog = catalog }

-- nothing has happened
abbrev pub nothing : law.Server
nothing = record { registry = []; commits = []; shapes = [] }

-- a shape that is kept
abbrev pub Kept : Type 0
Kept = kept.Shape Def ghosts

-- what a definition knows
abbrev pub knows_in : Def → Knows
knows_in t = knows_of t.served t.condition.definition t.key t.selected t.condition.clause

-- by what it reads rows
abbrev pub reader_of : Def → Reader
reader_of t = record { knows = knows_in t; unread = unread_under t.condition.definition.columns t.condition.clause }

abbrev pub reader_in : Kept → Reader
reader_in k = reader_of k.emitter.test

-- What is kept for a live number stands for the events of its shape. They do not drop it, its snapshot came exactly where it is ready, and its last commit is not after the server's.
pub record IsKept (o : Options) (v : law.Server) (number : ℕ) (x : Shape) (k : Kept) : Type 0 where
  pub reader : x.reader ≡ reader_in k
  pub limits : k.state.limits ≡ o.limits
  pub stands : shape.Stands x.reader k.state x.events
  pub lives : drop_of x.reader o.limits x.events ≡ None
  pub ready : is_some (snapshot_in x.events) ≡ had_ready v.registry number
  pub last : shapes.last_lsn x.events ≤ histories.last_lsn v.registry

-- A shape of a number that is not removed is kept; the events of one that is removed drop it.
abbrev pub StandsFor : Options → law.Server → Server → ℕ → Shape → Bool → Type 0
StandsFor o v s number x false = IsSomeAnd (fin.get s.registry.kept number) (IsKept o v number x)
StandsFor o v s number x true = is_some (drop_of x.reader o.limits x.events) ≡ true

-- a table has fewer than 2^32 columns
abbrev pub HasFewColumns : TableDef → Type 0
HasFewColumns d = length d.columns < 4294967296

-- A catalogue of the served tables: each has a definition, which stands in its place, and has fewer than 2^32 columns.
pub record IsCatalog (tables : List Served) (catalog : List TableDef) : Type 0 where
  pub served : length catalog ≡ length tables
  pub placed : ArePlaced catalog
  pub few : (place : ℕ) → IfSome (slice_get catalog place) HasFewColumns

-- The server stands for a situation: its registry stands for the events, each number that was registered has a shape, which stands for its events, and the sum is that of the bytes of all logs.
pub record Stands (o : Options) (v : law.Server) (s : Server) : Type 0 where
  pub run : s.run ≡ o.run
  pub limits : s.limits ≡ o.limits
  pub tables : s.tables ≡ o.tables
  pub registry : histories.Stands (registry_start o) v.registry s.registry.state
  pub catalog : IsCatalog o.tables s.registry.state.catalog
  pub counted : length (registrations v.registry) ≡ length v.shapes
  pub known : (number : ℕ) → was_registered v.registry number ≡ true → is_some (shape_at v.shapes number) ≡ true
  pub shapes : (number : ℕ) (x : Shape) → shape_at v.shapes number ≡ Some x → StandsFor o v s number x (was_removed v.registry number)
  pub total : s.total ≡ all_bytes o v.shapes

-- It stands for some situation.
pub record IsSituated (s : Server) : Type 0 where
  pub options : Options
  pub situation : law.Server
  pub stands : Stands options situation s

-- For each situation for which it stood, it stands for the next.
abbrev pub Moves : Server → (Options → law.Server → law.Server) → Server → Type 0
Moves old next new = (o : Options) (v : law.Server) → Stands o v old → Stands o (next o v) new

-- a new definition is of a served table, and has fewer than 2^32 columns
pub record IsNew (tables : List Served) (d : TableDef) : Type 0 where
  pub served : d.table < length tables
  pub few : HasFewColumns d
