use Rattle.shape_base.proofs.SameLog.{same_log}
use Rattle.shape_base.proofs.laws.same_log.Goals as goal

pub returns : goal.returns
returns c = same_log
