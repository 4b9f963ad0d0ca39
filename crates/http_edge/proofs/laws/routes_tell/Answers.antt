use Rattle.http_edge.proofs.RouteTells.{routes_tell}
use Rattle.http_edge.proofs.laws.routes_tell.Goals as goal

pub returns : goal.returns
returns c = routes_tell
