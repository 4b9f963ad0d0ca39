use Rattle.shape_state.specs.Reading.{reader_of}
use Rattle.shape_state.proofs.Causes.{GoesOn}
use Rattle.shape_state.proofs.stopping.first_stop.Given as goal

-- no change so far stopped the shape
abbrev pub invariant-loop-j : goal.invariant-loop-j
invariant-loop-j g l = GoesOn (reader_of (g.T.RowTest.knows l.emitter.test) (g.T.RowTest.unread l.emitter.test)) l.tx l.j
