use Rattle.shape_entries.proofs.Changes.{Left}
use Rattle.shape_entries.proofs.commit.changes_entries.Given as goal

abbrev pub invariant-loop-j : goal.invariant-loop-j
invariant-loop-j g l = Left (g.T.RowTest.knows l.emitter.test) l.tx l.j l.written
