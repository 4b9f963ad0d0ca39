use Rattle.core_law.proofs.Waiting.{waits_for_one}
use Rattle.core_law.proofs.waits_for_one.Goals as goal

pub returns : goal.returns
returns c = waits_for_one
