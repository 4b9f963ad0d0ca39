use Rattle.shape_json.proofs.LawProofs.{log_is_of}
use Rattle.shape_json.proofs.laws.log_is_of.Goals as goal

pub returns : goal.returns
returns c = log_is_of
