-- A commit as a server takes it: the live numbers have it one after the other, and each that it drops is removed at once.
use Rattle.std.specs.Prelude.{◌≡◌, ℕ, ◌-◌, ◌≤◌, ◌<◌, true, false, ◌==◌, if◌then◌else◌, List, [], ◌∷◌, ◌++◌, length, take, get_or, fold, Option, None, Some, IfSome}
use Rattle.std.specs.List.{list_any}
use Rattle.std.specs.FinMap as fin
use Rattle.shape_base.specs.declared.change.Tx.{Tx}
use Rattle.shape_base.specs.declared.registry_event.RegistryEvent.TheVariants as events
use Rattle.shape_base.specs.RegistryHistory.{is_live, last_lsn}
use Rattle.shape_json.specs.ShapeHistory as shapes
use Rattle.shape_json.specs.ShapeHistory.{drop_of}
use Rattle.core_law.specs.Situation.{Options, Shape, shape_at}
use Rattle.core_law.specs.Situation as law
use Rattle.core_law.specs.Steps.{with_event, with_shape_event, removed_for, bytes_kept, all_bytes}
use Rattle.core_law.specs.Waiting.{IsAsBefore}
use Rattle.core_server.specs.declared.server.Server.{Server}
use Rattle.shape_state.specs.Standing as standing
use Rattle.core_server.specs.declared.effect.Effect.{Effect}
use Rattle.core_server.specs.Effects.{IsEffect}
use Rattle.core_server.specs.Standing.{Kept, reader_in, Stands}

-- the registry has the commit, and no shape has it yet
abbrev pub noted : law.Server → Tx → law.Server
noted v tx = record { registry = v.registry ++ events.Took tx.lsn tx.xid ∷ []; commits = v.commits ++ tx ∷ []; shapes = v.shapes }

-- it comes to a shape while the other logs have so many bytes
abbrev pub comes : Options → law.Server → Tx → Shape → shapes.ShapeEvent
comes o v tx x = shapes.Took tx (all_bytes o v.shapes - bytes_kept o x)

-- a shape has the commit, and is removed at once where that drops it
abbrev pub reached_by : Options → Tx → law.Server → ℕ → Option Shape → law.Server
reached_by o tx v n None = v
reached_by o tx v n (Some x) = let y = with_event (comes o v tx x) x in removed_for (with_shape_event v n (comes o v tx x)) tx n y (drop_of y.reader o.limits y.events)

-- The commit reaches a number: one that is live.
abbrev pub reached : Options → Tx → law.Server → ℕ → law.Server
reached o tx v n = if is_live v.registry n then reached_by o tx v n (shape_at v.shapes n) else v

-- It reaches these numbers, one after the other.
abbrev pub reached_all : Options → Tx → law.Server → List ℕ → law.Server
reached_all o tx v ns = fold (reached o tx) v ns

-- the registry has the commit, and it is after all that the shape of a number has, where that is live
pub record IsNewTo (v : law.Server) (tx : Tx) (n : ℕ) : Type 0 where
  pub noted : tx.lsn ≤ last_lsn v.registry
  pub later : is_live v.registry n ≡ true → IfSome (shape_at v.shapes n) (λ x. shapes.last_lsn x.events < tx.lsn)

-- These are the numbers to which something happened that an answer could tell.
pub record IsTold (v w : law.Server) (told : List ℕ) : Type 0 where
  pub quiet : (n : ℕ) → list_any (λ m. m == n) told ≡ false → IsAsBefore v w n
  pub loud : (n : ℕ) → list_any (λ m. m == n) told ≡ true → IsAsBefore v w n → ⊥

-- ---- one number

-- The shape of a live number has the commit, and is kept still: the effect says whether that drops it.
pub record HasTakenUp (o : Options) (v : law.Server) (tx : Tx) (n : ℕ) (s t : Server) (e : Effect) : Type 0 where
  pub live : is_live v.registry n ≡ true
  pub shape : Shape
  pub at : shape_at v.shapes n ≡ Some shape
  pub run : t.run ≡ s.run
  pub limits : t.limits ≡ s.limits
  pub tables : t.tables ≡ s.tables
  pub state : t.registry.state ≡ s.registry.state
  pub kept : Kept
  pub put : t.registry.kept ≡ fin.insert s.registry.kept n kept
  pub reader : shape.reader ≡ reader_in kept
  pub its_limits : kept.state.limits ≡ o.limits
  pub stands : standing.Stands shape.reader kept.state (shape.events ++ comes o v tx shape ∷ [])
  pub effect : IsEffect shape.reader o.limits shape.events tx (all_bytes o v.shapes - bytes_kept o shape) e
  pub total : t.total ≡ e.total

-- there is an effect exactly where the number is live
abbrev pub IsTakenUp : Options → law.Server → Tx → ℕ → Server → Server → Option Effect → Type 0
IsTakenUp o v tx n s t None = (t ≡ s) × (is_live v.registry n ≡ false)
IsTakenUp o v tx n s t (Some e) = HasTakenUp o v tx n s t e

-- the server stands for some situation in which the commit is after all that the shape of a number has
pub record IsDue (s : Server) (tx : Tx) (n : ℕ) : Type 0 where
  pub options : Options
  pub situation : law.Server
  pub stands : Stands options situation s
  pub later : IsNewTo situation tx n

-- ---- many numbers

-- no number stands twice
abbrev pub AreApart : List ℕ → Type 0
AreApart ns = (i : ℕ) → i < length ns → list_any (λ m. m == get_or ns i 0) (take i ns) ≡ false

-- the server stands for some situation in which the commit is after all that any shape has
pub record IsNoted (s : Server) (tx : Tx) : Type 0 where
  pub options : Options
  pub situation : law.Server
  pub stands : Stands options situation s
  pub later : (n : ℕ) → IsNewTo situation tx n

-- it stands for the situation in which the commit has reached these numbers, and what is told is all that an answer can tell
pub record HasReached (o : Options) (v : law.Server) (tx : Tx) (ns : List ℕ) (t : Server) (answer : List ℕ) : Type 0 where
  pub stands : Stands o (reached_all o tx v ns) t
  pub told : IsTold v (reached_all o tx v ns) answer
