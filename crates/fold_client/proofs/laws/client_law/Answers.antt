use Rattle.fold_client.proofs.Steps.{client_law}
use Rattle.fold_client.proofs.laws.client_law.Goals as goal

pub returns : goal.returns
returns c = client_law
