use Rattle.std.proofs.Common.{◌≡◌, true, take}
use Rattle.script_writing.specs.Parts.{has_no_zero}
use Rattle.script_writing.proofs.parts.has_no_zero.Given as goal

abbrev pub invariant-loop-byte : goal.invariant-loop-byte
invariant-loop-byte l = has_no_zero (take l.byte-index l.bytes) ≡ true
