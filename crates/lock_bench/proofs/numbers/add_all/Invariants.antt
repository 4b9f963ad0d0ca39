use Rattle.std.proofs.Common.{◌≡◌, ◌++◌, ◌+◌, length}
use Rattle.front_lock.specs.Passes.{mine, IsSameLock, IsSameShare}
use Rattle.lock_bench.specs.Numbers.{numbers}
use Rattle.lock_bench.proofs.numbers.add_all.Given as goal

abbrev pub invariant-loop-k : goal.invariant-loop-k
invariant-loop-k g l = IsSameLock l.initial.pass l.pass × IsSameShare l.initial.pass l.pass × (mine l.pass ≡ mine l.initial.pass ++ numbers l.first l.k) × (length (mine l.pass) ≡ length (mine l.initial.pass) + l.k)
