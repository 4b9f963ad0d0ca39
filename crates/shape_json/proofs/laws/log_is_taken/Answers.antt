use Rattle.shape_json.proofs.LawProofs.{log_is_taken}
use Rattle.shape_json.proofs.laws.log_is_taken.Goals as goal

pub returns : goal.returns
returns c = log_is_taken
