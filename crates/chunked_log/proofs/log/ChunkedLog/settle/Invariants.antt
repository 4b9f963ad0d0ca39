use Rattle.std.proofs.Common.{◌≡◌}
use Rattle.chunked_log.proofs.log.ChunkedLog.settle.Given as goal

-- what contracts see of the log stays
abbrev pub invariant-loop : goal.invariant-loop
invariant-loop l = l.self ≡ l.fn.self
