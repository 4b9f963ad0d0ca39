use Rattle.std.proofs.Common.{◌≡◌, drop}
use Rattle.shape_base.specs.Tables.{same_row, key_values}
use Rattle.change_map.proofs.key.have_same_values.Given as goal

-- what is left gives the same answer
abbrev pub invariant-loop-place : goal.invariant-loop-place
invariant-loop-place l = same_row (key_values l.key l.old) (key_values l.key l.new) ≡ same_row (key_values (drop l.place-index l.key) l.old) (key_values (drop l.place-index l.key) l.new)
