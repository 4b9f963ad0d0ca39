use Rattle.shape_state.proofs.Growth.{log_grows}
use Rattle.shape_state.proofs.laws.log_grows.Goals as goal

pub returns : goal.returns
returns c = log_grows
