use Rattle.core_run.proofs.Calls.{calls_lead}
use Rattle.core_run.proofs.calls_lead.Goals as goal

pub returns : goal.returns
returns c = calls_lead
