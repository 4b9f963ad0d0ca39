use Rattle.std.proofs.Common.{length, ◌∙◌, sym, ap}
use Rattle.shape_base.specs.Tables.{same_row, key_values}
use Rattle.change_map.proofs.KeyLaws.{same_keys}
use Rattle.change_map.proofs.Places.{key_in_row}
use Rattle.change_map.proofs.key.have_same_key.Goals as goal

pub have_same_values-requires-clause-old : goal.have_same_values-requires-clause-old
have_same_values-requires-clause-old g c = key_in_row (g.T.RowTest.knows c.args.test.now) (length c.args.old.now) c.as_slice.result.now (g.met.T.RowTest.lawful c.args.test.now) (c.as_slice.ensures ∙ c.key.ensures) c.requires.old

pub have_same_values-requires-clause-new : goal.have_same_values-requires-clause-new
have_same_values-requires-clause-new g c = key_in_row (g.T.RowTest.knows c.args.test.now) (length c.args.new.now) c.as_slice.result.now (g.met.T.RowTest.lawful c.args.test.now) (c.as_slice.ensures ∙ c.key.ensures) c.requires.new

pub returns : goal.returns
returns g c = sym (same_keys (g.T.RowTest.knows c.args.test.now) c.args.old.now c.args.new.now c.have_same_values.result c.requires.old_key c.requires.new_key (sym (c.have_same_values.ensures ∙ ap (λ ks. same_row (key_values ks c.args.old.now) (key_values ks c.args.new.now)) (c.as_slice.ensures ∙ c.key.ensures))))
