-- Why a snapshot is refused, and a premise.
use Rattle.shape_base.specs.declared.history.History.{History}
use Rattle.script_check.specs.declared.snapshot.Snapshot as raw
use Rattle.script_check.specs.declared.honesty.SnapshotError.{SnapshotError}
use Rattle.script_check.specs.declared.honesty.SnapshotError.TheVariants as errors
use Rattle.script_check.specs.Honest.{IsOutOfTurn, IsOtherDefinition, HasOtherRows, xids_of}

-- the first cause why the snapshot is honest for no step, unless memory ran out
abbrev pub IsDishonest : History → raw.Snapshot → SnapshotError → Type 0
IsDishonest h s errors.OutOfMemory = Unit {0}
IsDishonest h s (errors.OutOfTurn commit) = IsOutOfTurn s.visibility (xids_of h.steps) commit
IsDishonest h s errors.OtherDefinition = IsOtherDefinition h s
IsDishonest h s errors.OtherRows = HasOtherRows h s
