use Rattle.shape_json.proofs.Histories.{drop_next}
use Rattle.shape_json.proofs.laws.drop_next.Goals as goal

pub returns : goal.returns
returns c = drop_next
