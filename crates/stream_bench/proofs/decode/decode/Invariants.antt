use Rattle.std.proofs.Common.{◌≤◌}
use Rattle.stream_bench.proofs.decode.decode.Given as goal

abbrev pub invariant-loop-record : goal.invariant-loop-record
invariant-loop-record l = l.messages ≤ l.record
