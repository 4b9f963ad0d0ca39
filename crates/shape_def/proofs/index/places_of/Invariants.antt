use Rattle.std.proofs.Common.{◌≡◌, ◌++◌, drop}
use Rattle.std.specs.Option.{option_map}
use Rattle.shape_base.specs.Tables.{places_of}
use Rattle.shape_def.proofs.index.places_of.Given as goal

-- what is found so far, with the places of the names that are left
abbrev pub invariant-loop-name : goal.invariant-loop-name
invariant-loop-name l = option_map (λ ps. l.found ++ ps) (places_of l.columns (drop l.name-index l.name-items)) ≡ places_of l.columns l.names
