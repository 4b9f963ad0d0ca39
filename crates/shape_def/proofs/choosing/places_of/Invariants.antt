use Rattle.std.proofs.Common.{◌≡◌, ◌++◌, drop}
use Rattle.shape_def.specs.Chosen.{is_in}
use Rattle.shape_def.specs.Definition.{places_from}
use Rattle.shape_def.proofs.choosing.places_of.Given as goal

-- the places so far, with those of the columns that are left
abbrev pub invariant-loop-place : goal.invariant-loop-place
invariant-loop-place l = l.places ++ places_from (is_in l.set) l.place (drop l.place l.columns) ≡ places_from (is_in l.set) 0 l.columns
