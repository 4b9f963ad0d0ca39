use Rattle.script_play.proofs.Records.{has_key}
use Rattle.script_play.proofs.steps.step_of.Goals as goal

pub returns-in-Ok-Table-clause-key : goal.returns-in-Ok-Table-clause-key
returns-in-Ok-Table-clause-key c = c.declares.ensures.key (has_key _ _ (rw c.in-Ok-Table.field-0-is at c.in-Ok-Table.ensures))
