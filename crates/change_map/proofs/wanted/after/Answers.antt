use Rattle.std.proofs.Common.{◌-◌, arith, inl, inr}
use Rattle.change_map.proofs.Utf8Wants.{given, whole_of, wants_behind, wants_next, wants_no_next}
use Rattle.change_map.proofs.wanted.after.Goals as goal
use Rattle.change_map.proofs.wanted.after.Goals.{then-byte-before-via-then-byte-before, then-byte-before-via-else-byte-before+then-before-byte}

pub returns-then-before-eq0 : goal.returns-then-before-eq0
returns-then-before-eq0 c = λ bytes k. wants_behind bytes c.args.byte c.after_first.result (whole_of bytes c.args.before.left c.args.before.low c.args.before.high k c.if-before-eq0.true) c.after_first.ensures

pub returns-then-byte-before : goal.returns-then-byte-before
returns-then-byte-before c = λ bytes k. wants_no_next bytes (c.args.before.left - 1) c.args.before.left c.args.before.low c.args.before.high c.args.byte (omega arith) k (elim c.then-byte-before.branch [
  | then-byte-before-via-then-byte-before w ↦ inl (omega arith)
  | then-byte-before-via-else-byte-before+then-before-byte w ↦ inr (omega arith)
])

pub returns : goal.returns
returns c = λ bytes k. given bytes c.args.byte _ c.lacking.result c.lacking.ensures (wants_next bytes (c.args.before.left - 1) c.args.before.left c.args.before.low c.args.before.high c.args.byte (omega arith) k (omega arith) (omega arith))
