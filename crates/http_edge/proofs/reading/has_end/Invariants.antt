use Rattle.std.proofs.Common.{◌≡◌, length}
use Rattle.http_edge.specs.ReplyAnswer.{has_end}
use Rattle.http_edge.proofs.reading.has_end.Given as goal

abbrev pub invariant-bytes : goal.invariant-bytes
invariant-bytes l = has_end l.fn.text ≡ has_end l.rest

abbrev pub decreases-bytes : goal.decreases-bytes
decreases-bytes l = length l.rest
