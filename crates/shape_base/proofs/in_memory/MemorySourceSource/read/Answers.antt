use Rattle.std.proofs.Common.{arith}
use Rattle.shape_base.proofs.Pieces.{piece_left, piece_given}
use Rattle.shape_base.proofs.in_memory.MemorySourceSource.read.Goals as goal

pub returns-clause-left : goal.returns-clause-left
returns-clause-left c = λ _. piece_left c.args.self.now.bytes.items c.args.room.now c.copy_from_slice.new.self c.args.self.now.at c.min-count.result (omega arith) (rw c.deref-2.ensures.value at c.copy_from_slice.ensures.after)

pub returns-clause-given : goal.returns-clause-given
returns-clause-given c = λ _. piece_given c.args.self.now.bytes.items c.args.room.now c.copy_from_slice.new.self c.args.self.now.at c.min-count.result (omega arith) (rw c.deref-2.ensures.value at c.copy_from_slice.ensures.after)
