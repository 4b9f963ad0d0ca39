-- Offsets of 64 bits in the logs of live numbers.
use Rattle.std.proofs.Common.{◌≡◌, ℕ, Bool, true, false, not, List, refl, sym, subst, Option, None, Some}
use Rattle.std.specs.Prelude.{IsSomeAnd}
use Rattle.std.specs.FinMap as fin
use Rattle.std.proofs.lemmas.Bool.{and_parts}
use Rattle.shape_base.specs.declared.limits.Limits.{Limits}
use Rattle.shape_base.specs.Snapshot.{Snapshot}
use Rattle.shape_base.specs.RegistryHistory.{was_registered, was_removed, is_live}
use Rattle.shape_json.specs.Reading.{HaveOffsets}
use Rattle.shape_json.specs.ShapeHistory.{Reader, ShapeEvent, snapshot_in, drop_of}
use Rattle.shape_state.specs.declared.state.State.{State}
use Rattle.shape_state.specs.Standing as shape
use Rattle.shape_state.proofs.Lemmas.{log_is_short}
use Rattle.core_law.specs.Situation.{Options, Shape, shape_at, log_by, log_of_shape}
use Rattle.core_law.specs.Situation as law
use Rattle.core_server.specs.declared.server.Server.{Server}
use Rattle.core_server.specs.Standing.{Kept, IsKept, StandsFor, Stands}
use Rattle.core_server.proofs.Dropping.{not_true}

log_short : (r : Reader) (s : State) (events : List ShapeEvent) (snapshot : Option Snapshot) → shape.Stands r s events → drop_of r s.limits events ≡ None → snapshot_in events ≡ snapshot → HaveOffsets (log_by r snapshot events)
log_short r s events None stands lives is = tt
log_short r s events (Some snapshot) stands lives is = log_is_short r s events snapshot stands lives is

module _ (o : Options) (v : law.Server) (s : Server) (n : ℕ) where
  kept_short : (x : Shape) (k : Option Kept) → IsSomeAnd k (IsKept o v n x) → HaveOffsets (log_by x.reader (snapshot_in x.events) x.events)
  kept_short x None is = absurd is
  kept_short x (Some k) is = log_short x.reader k.state x.events (snapshot_in x.events) is.stands (subst (λ (l : Limits). drop_of x.reader l x.events ≡ None) (sym is.limits) is.lives) refl

  shape_short : (x : Shape) (removed : Bool) → removed ≡ false → StandsFor o v s n x removed → HaveOffsets (log_by x.reader (snapshot_in x.events) x.events)
  shape_short x true e is = cc
  shape_short x false e is = kept_short x (fin.get s.registry.kept n) is

  log_at_short : (x : Option Shape) → Stands o v s → shape_at v.shapes n ≡ x → was_removed v.registry n ≡ false → HaveOffsets (log_of_shape x)
  log_at_short None h at kept = tt
  log_at_short (Some x) h at kept = shape_short x (was_removed v.registry n) kept (h.shapes n x at)

-- The offsets of the log of each number that was not removed have 64 bits.
pub short_unless_removed : (o : Options) (v : law.Server) (s : Server) → Stands o v s → (number : ℕ) → was_removed v.registry number ≡ false → HaveOffsets (log_of_shape (shape_at v.shapes number))
short_unless_removed o v s h number kept = log_at_short o v s number (shape_at v.shapes number) h refl kept

-- Those of each live number have.
pub short_logs : (o : Options) (v : law.Server) (s : Server) → Stands o v s → (number : ℕ) → is_live v.registry number ≡ true → HaveOffsets (log_of_shape (shape_at v.shapes number))
short_logs o v s h number live = short_unless_removed o v s h number (not_true (was_removed v.registry number) (and_parts (was_registered v.registry number) (not (was_removed v.registry number)) live).1)
