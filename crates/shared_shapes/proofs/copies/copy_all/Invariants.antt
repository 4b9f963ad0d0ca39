use Rattle.shared_shapes.proofs.Copying.{Copying}
use Rattle.shared_shapes.proofs.copies.copy_all.Given as goal

abbrev pub invariant-loop-i : goal.invariant-loop-i
invariant-loop-i g l = Copying l.fn.seats l.seats l.copies l.numbers.items l.i
