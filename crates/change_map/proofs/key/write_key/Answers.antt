use Rattle.std.proofs.Common.{length, map, ◌∙◌, ap, subst}
use Rattle.std.specs.List.{AllByRecursion}
use Rattle.std.specs.Str.{IsUtf8}
use Rattle.shape_base.specs.declared.served.Served.{Served}
use Rattle.shape_base.specs.Tables.{key_values}
use Rattle.shape_base.specs.Shape.{words_of}
use Rattle.change_map.proofs.KeyLaws.{are_parts}
use Rattle.change_map.proofs.Places.{key_in_row}
use Rattle.change_map.proofs.key.write_key.Goals as goal

pub push_values-requires : goal.push_values-requires
push_values-requires g c = key_in_row (g.T.RowTest.knows c.args.test.now) (length c.args.row.now) c.as_slice.result.now (g.met.T.RowTest.lawful c.args.test.now) (c.as_slice.ensures ∙ c.key.ensures) c.requires

pub returns-clause-parts : goal.returns-clause-parts
returns-clause-parts g c = are_parts (g.T.RowTest.knows c.args.test.now) c.args.row.now (g.met.T.RowTest.lawful c.args.test.now)
    (subst IsUtf8 (ap (λ (s : Served). s.ns) c.served.ensures) c.in_ok-bytes.ensures.ns)
    (subst IsUtf8 (ap (λ (s : Served). s.name) c.served.ensures) c.in_ok-bytes.ensures.name)
    (subst (λ ks. AllByRecursion IsUtf8 (map words_of (key_values ks c.args.row.now))) (c.as_slice.ensures ∙ c.key.ensures) c.in_ok-push_values.ensures.words)
