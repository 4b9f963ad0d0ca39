use Rattle.std.proofs.Common.{◌≡◌, length, Ok}
use Rattle.std.specs.Prelude.{◌||◌}
use Rattle.std.specs.FinMap as map
use Rattle.tx_assembler.specs.Answers.{next}
use Rattle.tx_assembler.specs.Kept.{target_of}
use Rattle.tx_assembler.specs.Taking.{some_served}
use Rattle.tx_assembler.proofs.kept.is_one_served.Given as goal

-- what is left decides it, with what was found
abbrev pub invariant-loop-rest : goal.invariant-loop-rest
invariant-loop-rest l = some_served (target_of l.tables (map.get l.relations)) l.oids ≡ next (some_served (target_of l.tables (map.get l.relations)) l.rest) (λ later. Ok (l.found || later))

abbrev pub decreases-loop-rest : goal.decreases-loop-rest
decreases-loop-rest l = length l.rest
