use Rattle.http_edge.proofs.Fairness.{lawful_is_fair}
use Rattle.http_edge.proofs.laws.lawful_is_fair.Goals as goal

pub returns : goal.returns
returns c = lawful_is_fair
