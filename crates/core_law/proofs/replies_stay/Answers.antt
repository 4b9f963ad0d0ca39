use Rattle.core_law.proofs.Staying.{replies_stay}
use Rattle.core_law.proofs.replies_stay.Goals as goal

pub returns : goal.returns
returns c = replies_stay
