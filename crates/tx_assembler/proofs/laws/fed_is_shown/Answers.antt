use Rattle.tx_assembler.proofs.Runs.{fed_is_shown}
use Rattle.tx_assembler.proofs.laws.fed_is_shown.Goals as goal

pub returns : goal.returns
returns c = fed_is_shown
