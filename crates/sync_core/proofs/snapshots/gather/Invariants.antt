use Rattle.core_law.specs.Situation.{Options, Situation}
use Rattle.core_machine.specs.Standing.{Stands}
use Rattle.sync_core.proofs.Snapping.{Gathered}
use Rattle.sync_core.proofs.snapshots.gather.Given as goal

-- the rows before those that are left were taken
abbrev pub invariant-loop-row : goal.invariant-loop-row
invariant-loop-row l = (o : Options) (s : Situation) → Stands o s l.machine → Gathered o s l.exchange l.head l.fn.rows l.row-iterator.rest.items l.taken
