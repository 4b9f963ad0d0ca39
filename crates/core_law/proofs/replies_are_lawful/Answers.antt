use Rattle.core_law.proofs.Whole.{replies_are_lawful}
use Rattle.core_law.proofs.replies_are_lawful.Goals as goal

pub returns : goal.returns
returns c = replies_are_lawful
