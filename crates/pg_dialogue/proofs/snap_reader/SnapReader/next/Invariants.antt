use Rattle.std.proofs.Common.{None, length}
use Rattle.pg_dialogue.specs.Pieces.{Leads}
use Rattle.pg_dialogue.proofs.snap_reader.SnapReader.next.Given as goal

abbrev pub invariant-messages : goal.invariant-messages
invariant-messages l = Leads l.fn.self None l.self

abbrev pub decreases-messages : goal.decreases-messages
decreases-messages l = length l.self.rest
