use Rattle.shape_state.proofs.Growth.{comes_later}
use Rattle.shape_state.proofs.laws.comes_later.Goals as goal

pub returns : goal.returns
returns c = comes_later
