use Rattle.core_law.proofs.Whole.{headline}
use Rattle.core_law.proofs.headline.Goals as goal

pub returns : goal.returns
returns c = headline
