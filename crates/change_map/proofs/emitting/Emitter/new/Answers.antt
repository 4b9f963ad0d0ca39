use Rattle.std.proofs.Common.{◌∙◌}
use Rattle.change_map.proofs.Places.{selected_in, names_in}
use Rattle.change_map.proofs.emitting.Emitter.new.Goals as goal

pub in_name_order-requires : goal.in_name_order-requires
in_name_order-requires g c =
    let s = g.T.RowTest.knows c.args.test in
    let test = g.met.T.RowTest.lawful c.args.test in
    let selected = c.as_slice.ensures ∙ c.selected.ensures in
    record { places = selected_in s c.definition.result.now c.as_slice.result.now test c.definition.ensures selected; distinct = names_in s c.definition.result.now c.as_slice.result.now test c.definition.ensures selected }
