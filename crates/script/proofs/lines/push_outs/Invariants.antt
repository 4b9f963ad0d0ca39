use Rattle.std.proofs.Common.{◌≡◌, ◌++◌, drop}
use Rattle.std.specs.List.{flat_map}
use Rattle.script.specs.Lines.{out_text}
use Rattle.script.proofs.lines.push_outs.Given as goal

-- what is written, with the lines of the outs that are left
abbrev pub invariant-loop-put : goal.invariant-loop-put
invariant-loop-put l = l.out.items ++ flat_map out_text (drop l.put-index l.put-items) ≡ l.fn.out.items ++ flat_map out_text l.outs
