use Rattle.std.proofs.Common.{◌≡◌, length}
use Rattle.std.specs.FinMap as map
use Rattle.tx_assembler.specs.Kept.{target_of, with_changes}
use Rattle.tx_assembler.specs.Taking.{HasMore, truncations}
use Rattle.tx_assembler.proofs.kept.add_truncations.Given as goal

-- what is left gives the rest of the changes
abbrev pub invariant-loop-rest : goal.invariant-loop-rest
invariant-loop-rest l = record {
  same : with_changes l.tx (truncations (target_of l.tables (map.get l.relations)) l.rest) ≡ with_changes l.fn.tx (truncations (target_of l.tables (map.get l.relations)) l.oids);
  more : HasMore l.fn.tx l.tx;
}

abbrev pub decreases-loop-rest : goal.decreases-loop-rest
decreases-loop-rest l = length l.rest
