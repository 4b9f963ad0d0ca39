use Rattle.core_run.proofs.Leading.{leads_more}
use Rattle.core_run.proofs.leads_more.Goals as goal

pub returns : goal.returns
returns c = leads_more
