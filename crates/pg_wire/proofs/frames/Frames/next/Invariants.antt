use Rattle.std.proofs.Common.{[], length}
use Rattle.pg_wire.specs.Cutting.{Leads}
use Rattle.pg_wire.proofs.frames.Frames.next.Given as goal

abbrev pub invariant-loop-frame : goal.invariant-loop-frame
invariant-loop-frame l = Leads l.fn.self [] l.self

abbrev pub decreases-loop-frame : goal.decreases-loop-frame
decreases-loop-frame l = length l.self.rest
