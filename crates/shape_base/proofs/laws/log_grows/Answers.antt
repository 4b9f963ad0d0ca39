use Rattle.shape_base.proofs.Growing.{log_grows}
use Rattle.shape_base.proofs.laws.log_grows.Goals as goal

pub returns : goal.returns
returns c = log_grows
