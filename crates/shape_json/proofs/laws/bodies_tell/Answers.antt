use Rattle.shape_json.proofs.LawProofs.{bodies_tell}
use Rattle.shape_json.proofs.laws.bodies_tell.Goals as goal

pub returns : goal.returns
returns c = bodies_tell
