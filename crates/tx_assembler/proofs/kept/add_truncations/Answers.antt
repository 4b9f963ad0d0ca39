use Rattle.std.proofs.Common.{refl}
use Rattle.tx_assembler.proofs.Targets.{more_none}
use Rattle.tx_assembler.proofs.kept.add_truncations.Goals as goal

pub loop-rest-init : goal.loop-rest-init
loop-rest-init c = record { same = refl; more = more_none c.args.tx.now }
