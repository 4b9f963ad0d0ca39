use Rattle.core_law.proofs.Whole.{replies_are_fair}
use Rattle.core_law.proofs.replies_are_fair.Goals as goal

pub returns : goal.returns
returns c = replies_are_fair
