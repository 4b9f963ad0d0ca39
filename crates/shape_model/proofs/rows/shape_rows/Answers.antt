use Rattle.shape_model.proofs.Widths.{wide_rows}
use Rattle.shape_model.proofs.rows.shape_rows.Goals as goal

pub selected_rows-requires-clause-wide : goal.selected_rows-requires-clause-wide
selected_rows-requires-clause-wide g c =
    let s = g.T.RowTest.knows c.args.test.now in
    wide_rows c.args.history.now s.served c.args.steps s.definition c.definition-definition.result.now c.in_ok-rows.rows c.definition-definition.ensures c.in_ok-rows.ensures c.requires.good c.requires.served c.requires.defined
