-- What an exchange without a reply waits for.
use Rattle.std.specs.Prelude.{◌≡◌, ℕ, false, List, ◌++◌, Option, None, Some, slice_get}
use Rattle.shape_base.specs.declared.ask.Named.{Named}
use Rattle.shape_base.specs.declared.ask.Named.TheVariants.{Absent, Known, Strange}
use Rattle.shape_base.specs.RegistryHistory.{was_removed, had_ready}
use Rattle.http_edge.specs.Lawful.{Asked, Refuses, AsksFor}
use Rattle.core_law.specs.Situation.{Options, Server, shape_at, log_of_shape, Role, Reads, Waits, Owns, HasNone, Exchange, at_start}
use Rattle.core_law.specs.Steps.{reply_now}
use Rattle.core_law.specs.Run.{Event, after}
use Rattle.core_law.specs.Laws.{IsStart}

abbrev pub number_named : Named → Option ℕ
number_named Absent = None
number_named (Known handle) = Some handle.number
number_named Strange = None

abbrev pub number_asked : Asked → Option ℕ
number_asked (Refuses code) = None
number_asked (AsksFor ask) = number_named ask.named

-- the number whose log, snapshot or removal gives it its reply: that of the handle that its request names, or the one that it found or registered
abbrev pub awaited : Asked → Role → Option ℕ
awaited asked Reads = number_asked asked
awaited asked (Waits n) = Some n
awaited asked (Owns n) = Some n
awaited asked HasNone = None

-- nothing happened to a number from one server to a later one that an answer could tell
pub record IsAsBefore (v w : Server) (n : ℕ) : Type 0 where
  pub removed : was_removed w.registry n ≡ was_removed v.registry n
  pub ready : had_ready w.registry n ≡ had_ready v.registry n
  pub log : log_of_shape (shape_at w.shapes n) ≡ log_of_shape (shape_at v.shapes n)

-- An exchange without a reply waits for one number: whatever happens, it gets none as long as nothing happens to that one, and it is not late.
abbrev pub WaitsForOne : Type 0
WaitsForOne = (o : Options) (events later : List Event) (e n : ℕ) (x : Exchange) → IsStart o → slice_get (after o at_start events).exchanges e ≡ Some x → x.given ≡ None → awaited x.asked x.role ≡ Some n
    → IsAsBefore (after o at_start events).server (after o at_start (events ++ later)).server n → reply_now o (after o at_start (events ++ later)).server false x.asked x.role ≡ None
