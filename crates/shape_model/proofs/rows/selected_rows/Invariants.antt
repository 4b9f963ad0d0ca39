use Rattle.std.proofs.Common.{◌≡◌, ◌++◌, true, take, drop}
use Rattle.shape_base.specs.Shape.{shown, have_truths}
use Rattle.shape_model.specs.Maps.{pairs_of}
use Rattle.shape_model.proofs.rows.selected_rows.Given as goal

-- what is left gives the other rows, and those so far have truths
abbrev pub invariant-loop-row : goal.invariant-loop-row
invariant-loop-row g l = record {
  shown : shown (g.T.RowTest.knows l.test) l.rows ≡ pairs_of l.made ++ shown (g.T.RowTest.knows l.test) (drop l.row-index l.rows);
  read : have_truths (g.T.RowTest.knows l.test) (take l.row-index l.rows) ≡ true;
}
