use Rattle.std.proofs.Common.{◌≡◌, ◌-◌}
use Rattle.byte_format.specs.Format.{times}
use Rattle.byte_format.proofs.Loops.{with_text}
use Rattle.script.proofs.lists.parts_at.Given as goal

abbrev pub invariant-loop : goal.invariant-loop
invariant-loop g l = with_text l.parts.items (times g.T.Part.read (l.count - l.counter) l.rest) ≡ times g.T.Part.read l.count l.bytes
