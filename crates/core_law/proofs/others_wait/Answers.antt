use Rattle.core_law.proofs.Waiting.{others_wait}
use Rattle.core_law.proofs.others_wait.Goals as goal

pub returns : goal.returns
returns c = others_wait
