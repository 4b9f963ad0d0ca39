use Rattle.core_run.proofs.Whole.{replies_are_lawful}
use Rattle.core_run.proofs.replies_are_lawful.Goals as goal

pub returns : goal.returns
returns c = replies_are_lawful c.leads_to_events.ensures c.commits_are_shown.ensures c.replies_are_lawful.ensures
