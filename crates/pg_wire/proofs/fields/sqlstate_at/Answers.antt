use Rattle.std.proofs.Common.{◌-◌, length, sym, ap, ◌∙◌, arith}
use Rattle.pg_wire.specs.ErrorFields.{sqlstate_of, bytes_of}
use Rattle.pg_wire.proofs.ErrorScan.{ran_out, at_zero, not_at_end, no_text, next_field, over}
use Rattle.pg_wire.proofs.fields.sqlstate_at.Goals as goal

pub returns-in_err-kind : goal.returns-in_err-kind
returns-in_err-kind c = ap bytes_of c.from_residual.ensures ∙ ran_out (bytes_of c.loop.found) (length c.args.payload.now - c.loop.counter) c.loop.rest.now (sqlstate_of c.args.payload.now) c.loop.invariant c.in_err-kind.ensures.cases

pub returns-then-is_empty : goal.returns-then-is_empty
returns-then-is_empty c = at_zero (bytes_of c.loop.found) (length c.args.payload.now) c.loop.counter c.in_ok-kind.kind.now c.loop.rest.now c.in_ok-kind.after.now (sqlstate_of c.args.payload.now) c.loop-test.true c.loop.invariant c.in_ok-kind.ensures.cases.0 c.if-kind-eq0.true (sym c.is_empty.ensures ∙ c.if-is_empty.true)

pub returns-else-is_empty : goal.returns-else-is_empty
returns-else-is_empty c = not_at_end (bytes_of c.loop.found) (length c.args.payload.now) c.loop.counter c.in_ok-kind.kind.now c.loop.rest.now c.in_ok-kind.after.now (sqlstate_of c.args.payload.now) c.loop-test.true c.loop.invariant c.in_ok-kind.ensures.cases.0 c.if-kind-eq0.true (sym c.is_empty.ensures ∙ c.if-is_empty.false)

pub returns-in_err-text : goal.returns-in_err-text
returns-in_err-text c = ap bytes_of c.from_residual-in_err-text.ensures ∙ no_text (bytes_of c.loop.found) (length c.args.payload.now) c.loop.counter c.in_ok-kind.kind.now c.loop.rest.now c.in_ok-kind.after.now (sqlstate_of c.args.payload.now) c.loop-test.true c.loop.invariant c.in_ok-kind.ensures.cases.0 (omega (arith, c.if-kind-eq0.false)) c.in_err-text.ensures.0 c.in_err-text.ensures.1

pub loop-preserved : goal.loop-preserved
loop-preserved c = rw c.first_code-found.ensures (next_field (bytes_of c.loop.found) (length c.args.payload.now) c.loop.counter c.in_ok-kind.kind.now c.loop.rest.now c.in_ok-kind.after.now c.in_ok-text.text.now c.in_ok-text.more.now (sqlstate_of c.args.payload.now) c.loop-test.true c.loop.invariant c.in_ok-kind.ensures.cases.0 (omega (arith, c.if-kind-eq0.false)) c.in_ok-text.ensures)

pub returns : goal.returns
returns c = over (bytes_of c.loop.found) (length c.args.payload.now) c.loop.counter c.loop.rest.now (sqlstate_of c.args.payload.now) c.loop-test.false c.loop.invariant
