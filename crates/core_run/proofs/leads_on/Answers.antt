use Rattle.core_run.proofs.Leading.{leads_on}
use Rattle.core_run.proofs.leads_on.Goals as goal

pub returns : goal.returns
returns c = leads_on
