use Rattle.std.proofs.Common.{take}
use Rattle.chunked_log.specs.Chunked.{Writes}
use Rattle.chunked_log.proofs.written.Written.of.Given as goal

-- the entries so far are written
abbrev pub invariant-loop-entry : goal.invariant-loop-entry
invariant-loop-entry l = Writes l.written (take l.entry-index l.entry-items)
