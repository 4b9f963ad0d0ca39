use Rattle.std.proofs.Common.{◌≡◌, ◌+◌, length}
use Rattle.tx_assembler.specs.Kept.{is_named, place_where}
use Rattle.tx_assembler.proofs.Loops.{behind}
use Rattle.tx_assembler.proofs.tables.table_named.Given as goal

-- the place in what is left, behind what was passed, is the answer
abbrev pub invariant-loop-rest : goal.invariant-loop-rest
invariant-loop-rest l = record {
  within : l.place + length l.rest ≡ length l.tables;
  same : place_where (is_named l.ns l.name) l.tables ≡ behind l.place (place_where (is_named l.ns l.name) l.rest);
}

abbrev pub decreases-loop-rest : goal.decreases-loop-rest
decreases-loop-rest l = length l.rest
