use Rattle.std.proofs.Common.{◌≡◌, ◌++◌, true, take}
use Rattle.script_writing.specs.Parts.{all}
use Rattle.script_writing.proofs.parts.put_all.Given as goal

abbrev pub invariant-loop-part : goal.invariant-loop-part
invariant-loop-part g l = (l.out.items ≡ l.fn.out.items ++ (all g.T.Part.spelling (take l.part-index l.parts)).bytes) × ((all g.T.Part.spelling (take l.part-index l.parts)).fits ≡ true)
