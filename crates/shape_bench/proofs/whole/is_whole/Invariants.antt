use Rattle.std.proofs.Common.{drop}
use Rattle.std.specs.List.{AllByRecursion}
use Rattle.shape_base.specs.Transactions.{IsUnder}
use Rattle.shape_bench.proofs.whole.is_whole.Given as goal

-- where the changes that are left are whole, all are
abbrev pub invariant-loop-change : goal.invariant-loop-change
invariant-loop-change l = AllByRecursion (IsUnder l.tx.defs) (drop l.change-index l.tx.changes) → AllByRecursion (IsUnder l.tx.defs) l.tx.changes
