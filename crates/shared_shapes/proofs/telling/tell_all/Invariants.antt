use Rattle.shared_shapes.proofs.Told.{Telling}
use Rattle.shared_shapes.proofs.telling.tell_all.Given as goal

abbrev pub invariant-loop-i : goal.invariant-loop-i
invariant-loop-i g l = Telling l.fn.seats l.fn.told l.seats l.told l.numbers.items l.i
