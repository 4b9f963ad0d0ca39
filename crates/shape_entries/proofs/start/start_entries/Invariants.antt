use Rattle.std.proofs.Common.{◌≡◌, ◌+◌, ◌++◌, length}
use Rattle.shape_base.specs.Shape.{shown}
use Rattle.shape_base.specs.Log.{start_from}
use Rattle.shape_entries.specs.Start.{are_good_after, are_good}
use Rattle.shape_entries.proofs.Rows.{has}
use Rattle.shape_entries.proofs.start.start_entries.Given as goal

-- what is made and what the rows that are left make are all, and they are good where all are
abbrev pub invariant-loop-row : goal.invariant-loop-row
invariant-loop-row g l = record {
  entries : l.made ++ start_from (length l.made + 1) (shown (g.T.RowTest.knows l.emitter.test) l.row-iterator.rest.items) ≡ start_from 1 (shown (g.T.RowTest.knows l.emitter.test) l.fn.rows);
  good : are_good_after (has l.seen) (g.T.RowTest.knows l.emitter.test) l.row-iterator.rest.items ≡ are_good (g.T.RowTest.knows l.emitter.test) l.fn.rows;
}
