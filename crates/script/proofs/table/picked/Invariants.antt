use Rattle.std.proofs.Common.{◌≡◌, ◌++◌, drop}
use Rattle.std.specs.Option.{option_map}
use Rattle.script.specs.Tables.{picked}
use Rattle.script.proofs.table.picked.Given as goal

-- what is picked so far, with the columns in the places that are left
abbrev pub invariant-loop-place : goal.invariant-loop-place
invariant-loop-place l = option_map (λ cs. l.key ++ cs) (picked l.columns (drop l.place-index l.places)) ≡ picked l.columns l.places
