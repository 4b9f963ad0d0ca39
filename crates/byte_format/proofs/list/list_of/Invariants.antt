use Rattle.std.proofs.Common.{◌≡◌, ◌-◌}
use Rattle.byte_format.specs.Format.{times}
use Rattle.byte_format.proofs.Loops.{with_text}
use Rattle.byte_format.proofs.list.list_of.Given as goal

abbrev pub invariant-loop : goal.invariant-loop
invariant-loop g l = with_text l.items.items (times g.T.Part.format.read (l.count - l.counter) l.rest) ≡ times g.T.Part.format.read l.count l.bytes
