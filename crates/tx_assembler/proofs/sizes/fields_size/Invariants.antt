use Rattle.std.proofs.Common.{◌≡◌, ◌+◌, ◌*◌, ◌≤◌, length}
use Rattle.std.specs.List.{flat_map, AllByRecursion}
use Rattle.pgout.specs.Grammar.{field}
use Rattle.tx_assembler.proofs.sizes.fields_size.Given as goal

abbrev pub invariant-loop-rest : goal.invariant-loop-rest
invariant-loop-rest l = record {
  same : l.size + length (flat_map field.spell l.rest) ≡ length (flat_map field.spell l.row);
  most : l.size + length l.rest * 4294967300 ≤ length l.row * 4294967300;
  fits : AllByRecursion field.Fits l.rest;
}

abbrev pub decreases-loop-rest : goal.decreases-loop-rest
decreases-loop-rest l = length l.rest
