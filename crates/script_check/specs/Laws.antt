-- Laws of checks.
use Rattle.std.specs.Prelude.{◌≡◌, ℕ, slice_get}
use Rattle.shape_base.specs.declared.history.History.{History}
use Rattle.shape_base.specs.Tables.{def_after}
use Rattle.shape_base.specs.Snapshot.{Snapshot, IsHonest}
use Rattle.script_check.specs.declared.snapshot.Snapshot as raw
use Rattle.script_check.specs.declared.honesty.SnapshotError.{SnapshotError}
use Rattle.script_check.specs.declared.honesty.SnapshotError.TheVariants as errors
use Rattle.script_check.specs.Honest.{IsHonestAt}
use Rattle.script_check.specs.Causes.{IsDishonest}
use Rattle.script_check.specs.Definitions.{IsKeptTo}

-- a snapshot without its table
abbrev pub seen : raw.Snapshot → Snapshot
seen s = record { visibility = s.visibility; oid = s.definition.oid; columns = s.definition.columns; rows = s.rows }

-- A snapshot that a check takes for honest is honest, whatever commit was taken before it.
abbrev pub HonestIsHonest : Type 0
HonestIsHonest = (h : History) (s : raw.Snapshot) (k q : ℕ) → IsHonestAt h s k → IsHonest h s.definition.table (seen s) k q

-- A snapshot that is refused is honest for no step, unless memory ran out.
abbrev pub DishonestIsRefused : Type 0
DishonestIsRefused = (h : History) (s : raw.Snapshot) (e : SnapshotError) (k : ℕ) → (e ≡ errors.OutOfMemory → ⊥) → IsDishonest h s e → IsHonestAt h s k → ⊥

-- Where steps keep the definitions, each table has the declared one after them.
abbrev pub KeptIsDeclared : Type 0
KeptIsDeclared = (h : History) (t k : ℕ) → IsKeptTo h k → def_after h t k ≡ slice_get h.defs t
