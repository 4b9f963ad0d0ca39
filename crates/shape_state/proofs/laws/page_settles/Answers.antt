use Rattle.shape_state.proofs.Growth.{page_settles}
use Rattle.shape_state.proofs.laws.page_settles.Goals as goal

pub returns : goal.returns
returns c = page_settles
