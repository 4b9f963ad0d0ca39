use Rattle.shape_base.proofs.GoodByStep.{good_by_step}
use Rattle.shape_base.proofs.laws.good_by_step.Goals as goal

pub returns : goal.returns
returns c = good_by_step
