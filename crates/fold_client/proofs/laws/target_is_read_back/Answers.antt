use Rattle.fold_client.proofs.TargetLaw.{target_is_read_back}
use Rattle.fold_client.proofs.laws.target_is_read_back.Goals as goal

pub returns : goal.returns
returns c = target_is_read_back
