use Rattle.std.proofs.Common.{drop}
use Rattle.core_machine.proofs.Committing.{Taking}
use Rattle.core_machine.proofs.commits.take_all.Given as goal

-- the server took the commits so far
abbrev pub invariant-loop-tx : goal.invariant-loop-tx
invariant-loop-tx l = Taking l.fn.server l.server l.txs (drop l.tx-index l.txs) l.told.keys
