use Rattle.core_law.proofs.Saying.{replies_say}
use Rattle.core_law.proofs.replies_say.Goals as goal

pub returns : goal.returns
returns c = replies_say
