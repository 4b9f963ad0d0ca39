use Rattle.std.proofs.Common.{length, arith}
use Rattle.std.proofs.lemmas.Result.{err_from_is_err_and}
use Rattle.snapshot_merge.specs.VisText.{numbers_within}
use Rattle.snapshot_merge.proofs.Loops.{no_number, last_number, no_comma, goes_on, no_turn_left, none_left, some_left}
use Rattle.snapshot_merge.proofs.reading.numbers.Goals as goal

pub returns-in_err-id : goal.returns-in_err-id
returns-in_err-id c =
    let p = err_from_is_err_and c.from_residual.result c.from_residual.ensures.1 in
    rw (p.1, p.2) (no_number c.in_err-id.field-0.0 c.ids.ids.items (length c.args.bytes.now) c.ids.counter c.args.high c.ids.low c.ids.rest.now (numbers_within (length c.args.bytes.now) c.args.high c.args.low c.args.bytes.now) (omega (arith, c.ids-test.true)) c.in_err-id.ensures.read c.ids.invariant)

pub returns-then-is_empty : goal.returns-then-is_empty
returns-then-is_empty c =
    rw c.in_ok-push.ensures.items (last_number c.ids.ids.items (length c.args.bytes.now) c.ids.counter c.args.high c.ids.low c.in_ok-id.id c.ids.rest.now c.in_ok-id.tail.now (numbers_within (length c.args.bytes.now) c.args.high c.args.low c.args.bytes.now)
    (omega (arith, c.ids-test.true)) c.in_ok-id.ensures.read (none_left c.in_ok-id.tail.now c.if-is_empty.ensures) c.ids.invariant)

pub returns-in_err-rest : goal.returns-in_err-rest
returns-in_err-rest c =
    let p = err_from_is_err_and c.from_residual-in_err-rest.result c.from_residual-in_err-rest.ensures.1 in
    rw (p.1, p.2) (no_comma c.in_err-rest.field-0.0 c.ids.ids.items (length c.args.bytes.now) c.ids.counter c.args.high c.ids.low c.in_ok-id.id c.ids.rest.now c.in_ok-id.tail.now (numbers_within (length c.args.bytes.now) c.args.high c.args.low c.args.bytes.now)
    (omega (arith, c.ids-test.true)) c.in_ok-id.ensures.read (some_left c.in_ok-id.tail.now c.if-is_empty.ensures) c.in_err-rest.ensures c.ids.invariant)

pub ids-preserved : goal.ids-preserved
ids-preserved c =
    rw c.in_ok-push.ensures.items (goes_on c.ids.ids.items (length c.args.bytes.now) c.ids.counter c.args.high c.ids.low c.in_ok-id.id c.ids.rest.now c.in_ok-id.tail.now c.in_ok-rest.rest.now (numbers_within (length c.args.bytes.now) c.args.high c.args.low c.args.bytes.now)
    (omega (arith, c.ids-test.true)) c.in_ok-id.ensures.read (some_left c.in_ok-id.tail.now c.if-is_empty.ensures) c.in_ok-rest.ensures c.ids.invariant)

pub returns : goal.returns
returns c = no_turn_left c.ids.ids.items (length c.args.bytes.now) c.ids.counter c.args.high c.ids.low c.ids.rest.now (numbers_within (length c.args.bytes.now) c.args.high c.args.low c.args.bytes.now) (omega (arith, c.ids-test.false)) c.ids.invariant
