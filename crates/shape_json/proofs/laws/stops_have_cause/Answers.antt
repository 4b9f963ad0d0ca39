use Rattle.shape_json.proofs.LawProofs.{stops_have_cause}
use Rattle.shape_json.proofs.laws.stops_have_cause.Goals as goal

pub returns : goal.returns
returns c = stops_have_cause
