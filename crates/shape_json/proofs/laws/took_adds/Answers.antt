use Rattle.shape_json.proofs.Histories.{took_adds}
use Rattle.shape_json.proofs.laws.took_adds.Goals as goal

pub returns : goal.returns
returns c = took_adds
