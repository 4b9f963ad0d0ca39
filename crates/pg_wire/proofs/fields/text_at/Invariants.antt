use Rattle.std.proofs.Common.{◌≡◌, take, drop}
use Rattle.byte_format.specs.Format.{string_at}
use Rattle.byte_format.proofs.Loops.{with_text}
use Rattle.pg_wire.proofs.fields.text_at.Given as goal

abbrev pub invariant-loop-len : goal.invariant-loop-len
invariant-loop-len l = with_text (take l.len l.bytes) (string_at (drop l.len l.bytes)) ≡ string_at l.bytes
