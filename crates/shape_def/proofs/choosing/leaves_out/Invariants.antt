use Rattle.std.proofs.Common.{◌≡◌, take, false}
use Rattle.shape_def.specs.Chosen.{is_in}
use Rattle.shape_def.specs.Definition.{leaves_out}
use Rattle.shape_def.proofs.choosing.leaves_out.Given as goal

-- no key column so far is left out
abbrev pub invariant-loop-name : goal.invariant-loop-name
invariant-loop-name l = leaves_out (is_in l.set) (take l.name-index l.name-items) ≡ false
