use Rattle.std.proofs.Common.{◌≡◌, List, ◌++◌}
use Rattle.serde_json.specs.View.{members_view}
use Rattle.shape_base.specs.declared.entry.Cell.{Cell}
use Rattle.shape_json.specs.Reading.{cells_data}
use Rattle.shape_json.proofs.read.cells_of.Given as goal

abbrev pub invariant-loop-name : goal.invariant-loop-name
invariant-loop-name l = (all : List Cell) → members_view l.members.entries ≡ cells_data all → (rest : List Cell) × (all ≡ l.cells.items ++ rest) × (members_view l.name-iterator ≡ cells_data rest)
