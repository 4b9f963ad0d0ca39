use Rattle.std.proofs.Common.{◌<◌, length, arith}
use Rattle.script_check.proofs.Permuting.{not_permuted, all_taken, some_left, push_taken}
use Rattle.script_check.proofs.order.are_same_up_to_order.Goals as goal

pub returns-in-None : goal.returns-in-None
returns-in-None c =
    let lt : c.loop-place.place < length c.args.rows.now = omega arith in
    not_permuted c.args.rows.now c.args.others.now c.loop-place.left c.loop-place.place c.at.result.now lt c.at.ensures c.in-None.ensures c.loop-place.invariant

pub loop-place-preserved : goal.loop-place-preserved
loop-place-preserved c =
    let lt : c.loop-place.place < length c.args.rows.now = omega arith in
    rw c.remove.ensures (push_taken c.args.rows.now c.args.others.now c.loop-place.left c.loop-place.place c.in-Some.found c.at.result.now lt c.at.ensures c.in-Some.ensures.0 c.in-Some.ensures.1 c.loop-place.invariant)

pub returns-then-len-gt0 : goal.returns-then-len-gt0
returns-then-len-gt0 c = some_left c.args.rows.now c.args.others.now c.loop-place.left c.loop-place.place (omega arith) (omega arith) c.loop-place.invariant

pub returns : goal.returns
returns c = all_taken c.args.rows.now c.args.others.now c.loop-place.left c.loop-place.place (omega arith) (omega arith) c.loop-place.invariant
