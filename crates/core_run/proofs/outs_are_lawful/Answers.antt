use Rattle.core_run.proofs.Whole.{outs_are_lawful}
use Rattle.core_run.proofs.outs_are_lawful.Goals as goal

pub returns : goal.returns
returns c = outs_are_lawful c.leads_to_events.ensures c.replies_are_lawful.ensures
