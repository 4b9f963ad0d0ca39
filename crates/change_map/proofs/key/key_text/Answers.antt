use Rattle.std.proofs.Common.{◌≡◌, length, false, ◌∙◌, subst}
use Rattle.shape_base.specs.Tables.{lacks_key}
use Rattle.change_map.proofs.KeyLaws.{tells_key, text_of_parts}
use Rattle.change_map.proofs.Places.{key_in_row}
use Rattle.change_map.proofs.key.key_text.Goals as goal

pub null_key-requires : goal.null_key-requires
null_key-requires g c = key_in_row (g.T.RowTest.knows c.args.test.now) (length c.args.row.now) c.as_slice.result.now (g.met.T.RowTest.lawful c.args.test.now) (c.as_slice.ensures ∙ c.key.ensures) c.requires

pub returns-clause-tells : goal.returns-clause-tells
returns-clause-tells g c = tells_key (g.T.RowTest.knows c.args.test.now) c.args.row.now c.in_ok-write_key.field-0 (subst (λ ks. lacks_key ks c.args.row.now ≡ false) (c.as_slice.ensures ∙ c.key.ensures) c.in_default.ensures) c.in_ok-write_key.ensures.text

pub returns-clause-parts : goal.returns-clause-parts
returns-clause-parts g c = record { parts = c.in_ok-write_key.ensures.parts; is = c.in_ok-write_key.ensures.text ∙ text_of_parts (g.T.RowTest.knows c.args.test.now) c.args.row.now }
