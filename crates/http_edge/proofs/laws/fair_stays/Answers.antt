use Rattle.http_edge.proofs.Fairness.{fair_stays}
use Rattle.http_edge.proofs.laws.fair_stays.Goals as goal

pub returns : goal.returns
returns c = fair_stays
