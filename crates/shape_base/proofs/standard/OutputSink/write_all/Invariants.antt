use Rattle.std.proofs.Common.{length, ◌≡◌}
use Rattle.shape_base.proofs.standard.OutputSink.write_all.Given as goal

abbrev pub decreases-loop-rest : goal.decreases-loop-rest
decreases-loop-rest g l = length l.rest

abbrev pub invariant-loop-rest : goal.invariant-loop-rest
invariant-loop-rest g l = l.self.faults ≡ l.fn.self.faults
