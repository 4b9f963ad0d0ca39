use Rattle.shape_base.proofs.Growing.{point_rises}
use Rattle.shape_base.proofs.laws.point_rises.Goals as goal

pub returns : goal.returns
returns c = point_rises
