use Rattle.std.proofs.Common.{◌≡◌, ◌+◌, length}
use Rattle.shape_base.specs.Tables.{same_def}
use Rattle.tx_assembler.specs.Kept.{place_where}
use Rattle.tx_assembler.specs.Taking.{definition_at}
use Rattle.tx_assembler.proofs.Loops.{behind}
use Rattle.tx_assembler.proofs.transactions.place_of_definition.Given as goal

-- the place in what is left, behind what was passed, is the answer
abbrev pub invariant-loop-rest : goal.invariant-loop-rest
invariant-loop-rest l = record {
  within : l.place + length l.rest ≡ length l.defs;
  same : place_where (λ e. same_def e (definition_at l.table l.relation)) l.defs ≡ behind l.place (place_where (λ e. same_def e (definition_at l.table l.relation)) l.rest);
}

abbrev pub decreases-loop-rest : goal.decreases-loop-rest
decreases-loop-rest l = length l.rest
