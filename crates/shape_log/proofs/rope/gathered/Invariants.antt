use Rattle.std.proofs.Common.{◌≡◌, take}
use Rattle.std.specs.Prelude.{slice_range}
use Rattle.shape_log.specs.Roped.{flat}
use Rattle.shape_log.proofs.rope.gathered.Given as goal

-- what was copied are the bytes between the places in the parts so far
abbrev pub invariant-loop-part : goal.invariant-loop-part
invariant-loop-part l = l.out.items ≡ slice_range (flat (take l.part-index l.parts)) l.from l.to
