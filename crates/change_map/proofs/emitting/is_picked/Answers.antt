use Rattle.std.proofs.Common.{length, ◌∙◌}
use Rattle.change_map.proofs.Places.{key_in_row}
use Rattle.change_map.proofs.emitting.is_picked.Goals as goal

pub null_key-requires : goal.null_key-requires
null_key-requires g c = key_in_row (g.T.RowTest.knows c.args.test.now) (length c.args.row.now) c.as_slice.result.now (g.met.T.RowTest.lawful c.args.test.now) (c.as_slice.ensures ∙ c.key.ensures) c.requires
