use Rattle.std.proofs.Common.{length}
use Rattle.where_lexer.proofs.Writes.{Doubling}
use Rattle.where_lexer.proofs.writing.push_doubled.Given as goal

abbrev pub invariant-loop-tail : goal.invariant-loop-tail
invariant-loop-tail l = Doubling l.quote l.fn.bytes.items l.fn.text l.bytes.items l.rest

abbrev pub decreases-loop-tail : goal.decreases-loop-tail
decreases-loop-tail l = length l.rest
