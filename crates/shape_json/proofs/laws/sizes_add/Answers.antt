use Rattle.shape_json.proofs.LawProofs.{sizes_add}
use Rattle.shape_json.proofs.laws.sizes_add.Goals as goal

pub returns : goal.returns
returns c = sizes_add
