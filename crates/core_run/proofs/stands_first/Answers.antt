use Rattle.core_run.proofs.Calls.{stands_first}
use Rattle.core_run.proofs.stands_first.Goals as goal

pub returns : goal.returns
returns c = stands_first
