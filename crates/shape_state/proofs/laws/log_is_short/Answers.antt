use Rattle.shape_state.proofs.Growth.{log_is_short}
use Rattle.shape_state.proofs.laws.log_is_short.Goals as goal

pub returns : goal.returns
returns c = log_is_short
