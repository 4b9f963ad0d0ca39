use Rattle.std.proofs.Common.{◌≡◌, ◌∷◌, ◌++◌, take}
use Rattle.std.specs.List.{flat_map}
use Rattle.std.specs.String.{string_bytes}
use Rattle.http_edge.specs.Schema.{column_text}
use Rattle.core_server.specs.Columns.{column_in}
use Rattle.core_server.proofs.schema.push_places.Given as goal

abbrev pub invariant-loop-place : goal.invariant-loop-place
invariant-loop-place l = string_bytes l.text ≡ string_bytes l.initial.text ++ flat_map (λ place. 44 ∷ column_text (column_in l.columns place)) (take l.place-index l.places)
