use Rattle.tx_assembler.proofs.Rising.{shown_rise}
use Rattle.tx_assembler.proofs.laws.shown_rise.Goals as goal

pub returns : goal.returns
returns c = shown_rise
