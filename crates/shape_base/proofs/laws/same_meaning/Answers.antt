use Rattle.shape_base.proofs.Meanings.{same_meaning}
use Rattle.shape_base.proofs.laws.same_meaning.Goals as goal

pub returns : goal.returns
returns c = same_meaning
