use Rattle.shape_snapshot.proofs.Good.{good_rows}
use Rattle.shape_snapshot.proofs.laws.taken_rows_are_good.Goals as goal

pub returns : goal.returns
returns c = good_rows
