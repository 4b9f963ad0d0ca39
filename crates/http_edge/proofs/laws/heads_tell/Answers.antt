use Rattle.http_edge.proofs.HeadTells.{tell}
use Rattle.http_edge.proofs.laws.heads_tell.Goals as goal

pub returns : goal.returns
returns c = tell
