use Rattle.fold_client.proofs.Steps.{never_back}
use Rattle.fold_client.proofs.laws.never_back.Goals as goal

pub returns : goal.returns
returns c = never_back
