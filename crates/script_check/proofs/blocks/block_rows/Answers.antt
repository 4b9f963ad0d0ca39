use Rattle.std.proofs.Common.{◌∙◌}
use Rattle.script_check.proofs.Steady.{kept_is_declared}
use Rattle.script_check.proofs.blocks.block_rows.Goals as goal

pub shape_rows-requires-clause-defined : goal.shape_rows-requires-clause-defined
shape_rows-requires-clause-defined g c = kept_is_declared c.args.history.now (g.T.RowTest.knows c.args.test.now).definition.table c.args.steps c.requires.kept ∙ c.requires.declared
