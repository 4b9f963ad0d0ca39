use Rattle.core_run.proofs.Whole.{headline}
use Rattle.core_run.proofs.headline.Goals as goal

pub returns : goal.returns
returns c = headline c.leads_to_events.ensures c.commits_are_shown.ensures c.headline.ensures
