use Rattle.std.proofs.Common.{◌≤◌, ◌<◌, ◌+◌, ◌-◌, ◌*◌, sym, ◌∙◌, arith}
use Rattle.snapshot_merge.proofs.Digits.{digits_end, digits_stop, digits_pass, digits_more}
use Rattle.snapshot_merge.proofs.reading.digits.Goals as goal

pub returns-then-not-is_ascii_digit : goal.returns-then-not-is_ascii_digit
returns-then-not-is_ascii_digit c = sym c.digits.invariant ∙ digits_stop c.digits.number c.in-Some.byte c.digits.rest.now c.in-Some.others.now c.in-Some.ensures (sym c.if-not-is_ascii_digit.ensures.value)

pub returns-in-None : goal.returns-in-None
returns-in-None c =
    let over : 18446744073709551615 < c.digits.number * 10 + (c.in-Some.byte - 48) = omega (arith, c.in-None.ensures) in
    sym c.digits.invariant ∙ digits_pass c.digits.number c.in-Some.byte c.digits.rest.now c.in-Some.others.now c.in-Some.ensures (sym c.if-not-is_ascii_digit.ensures.value) over

pub digits-preserved : goal.digits-preserved
digits-preserved c =
    let fits : c.digits.number * 10 + (c.in-Some.byte - 48) ≤ 18446744073709551615 = omega (arith, c.in-Some-with_digit.ensures.0) in
    digits_more c.digits.number c.in-Some.byte c.in-Some-with_digit.more c.digits.rest.now c.in-Some.others.now c.in-Some.ensures (sym c.if-not-is_ascii_digit.ensures.value) fits c.in-Some-with_digit.ensures.1 ∙ c.digits.invariant

pub returns : goal.returns
returns c = sym c.digits.invariant ∙ digits_end c.digits.number c.digits.rest.now c.in_default.ensures
