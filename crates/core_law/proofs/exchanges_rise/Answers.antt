use Rattle.core_law.proofs.Rising.{exchanges_rise}
use Rattle.core_law.proofs.exchanges_rise.Goals as goal

pub returns : goal.returns
returns c = exchanges_rise
