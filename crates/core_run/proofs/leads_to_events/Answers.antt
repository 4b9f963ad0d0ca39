use Rattle.core_run.proofs.Leading.{leads_to_events}
use Rattle.core_run.proofs.leads_to_events.Goals as goal

pub returns : goal.returns
returns c = leads_to_events
