use Rattle.sync_core.proofs.Keeping.{elsewhere}
use Rattle.sync_core.proofs.dialogues.Dialogues.let_go.Goals as goal

pub returns-clause-others : goal.returns-clause-others
returns-clause-others c other apart = c.remove-was.ensures.updates.2 other (elsewhere c.args.exchange other apart)
