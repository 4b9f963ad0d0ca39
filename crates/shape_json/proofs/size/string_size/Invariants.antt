use Rattle.std.proofs.Common.{◌≡◌, ◌+◌, length, take}
use Rattle.json.specs.Print.{escape}
use Rattle.shape_json.specs.Body.{capped}
use Rattle.shape_json.proofs.size.string_size.Given as goal

abbrev pub invariant-loop-byte : goal.invariant-loop-byte
invariant-loop-byte l = l.size ≡ capped (length (escape (take l.byte-index l.text)) + 2)
