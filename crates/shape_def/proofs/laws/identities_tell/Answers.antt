use Rattle.shape_def.proofs.Telling.{identities_tell}
use Rattle.shape_def.proofs.laws.identities_tell.Goals as goal

pub returns : goal.returns
returns c = identities_tell
