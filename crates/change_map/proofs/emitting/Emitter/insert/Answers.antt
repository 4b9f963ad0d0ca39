use Rattle.std.proofs.Common.{◌∙◌}
use Rattle.change_map.proofs.Places.{ordered_in}
use Rattle.change_map.proofs.emitting.Emitter.insert.Goals as goal

pub cells_at-requires-clause-places : goal.cells_at-requires-clause-places
cells_at-requires-clause-places g c = ordered_in (g.T.RowTest.knows c.args.self.now.test) c.definition.result.now c.as_slice.result.now (g.met.T.RowTest.lawful c.args.self.now.test) c.definition.ensures (c.as_slice.ensures ∙ c.args.self.now.ordered)
