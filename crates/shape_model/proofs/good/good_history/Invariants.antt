use Rattle.shape_model.proofs.Breaking.{Stands}
use Rattle.shape_model.proofs.good.good_history.Given as goal

abbrev pub invariant-loop-table : goal.invariant-loop-table
invariant-loop-table l = Stands l.history l.table l.good
