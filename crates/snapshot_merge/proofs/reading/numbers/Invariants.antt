use Rattle.std.proofs.Common.{◌≡◌, length}
use Rattle.snapshot_merge.specs.VisText.{numbers_within}
use Rattle.snapshot_merge.proofs.Loops.{with_front, still}
use Rattle.snapshot_merge.proofs.reading.numbers.Given as goal

abbrev pub invariant-ids : goal.invariant-ids
invariant-ids l = with_front l.ids.items (still (length l.bytes) l.counter l.high l.low l.rest) ≡ numbers_within (length l.fn.bytes) l.fn.high l.fn.low l.fn.bytes
