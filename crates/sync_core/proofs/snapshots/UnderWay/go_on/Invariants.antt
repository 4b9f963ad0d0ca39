use Rattle.std.proofs.Common.{ℕ, List}
use Rattle.core_law.specs.Situation.{Options, Situation}
use Rattle.core_machine.specs.Standing.{Stands}
use Rattle.sync_core.specs.UnderWay.{IsUnderWay}
use Rattle.sync_core.proofs.snapshots.UnderWay.go_on.Given as goal

-- it is under way still
abbrev pub invariant-steps : goal.invariant-steps
invariant-steps l = (o : Options) (s : Situation) (fed : List ℕ) → Stands o s l.machine → IsUnderWay o s l.exchange fed l.fn.self → IsUnderWay o s l.exchange fed l.self
