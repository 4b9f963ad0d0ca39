use Rattle.core_run.proofs.Answering.{answers_are_right}
use Rattle.core_run.proofs.answers_are_right.Goals as goal

pub returns : goal.returns
returns c = answers_are_right c.replies_are_lawful.ensures c.headline.ensures
