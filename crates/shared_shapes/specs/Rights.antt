-- What contracts see of a caller's rights on a shape.
use Rattle.std.specs.Prelude.{Option}
use Rattle.std.specs.Option.{option_map}
use Rattle.atomic_table.specs.Seated.{TableId}
use Rattle.shared_shapes.specs.declared.rights.Rights.{Rights}

-- the list that gets a mark when the number becomes ready
abbrev pub right_in : Option Rights → Option TableId
right_in rights = option_map (λ (r : Rights). r.ready.of) rights
