use Rattle.std.proofs.Common.{◌≡◌, length}
use Rattle.snapshot_merge.specs.VisText.{digits_at}
use Rattle.snapshot_merge.proofs.reading.digits.Given as goal

abbrev pub invariant-digits : goal.invariant-digits
invariant-digits l = digits_at l.number l.rest ≡ digits_at l.fn.number l.fn.bytes

abbrev pub decreases-digits : goal.decreases-digits
decreases-digits l = length l.rest
