use Rattle.core_run.proofs.Calls.{stands_more}
use Rattle.core_run.proofs.stands_more.Goals as goal

pub returns : goal.returns
returns c = stands_more
