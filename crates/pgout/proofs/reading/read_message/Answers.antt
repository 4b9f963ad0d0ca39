use Rattle.std.proofs.Common.{◌≡◌, ◌-◌, length, ◌∙◌, ap, sym, subst, arith}
use Rattle.byte_format.specs.Whole.{whole, IsFirstWrong}
use Rattle.byte_format.proofs.Codec.{from_index, ok_is}
use Rattle.byte_format.proofs.Wholes.{whole_takes, whole_again, whole_wrong}
use Rattle.pgout.specs.Grammar.{message}
use Rattle.pgout.proofs.MessageLaws.{message_placed}
use Rattle.pgout.proofs.reading.read_message.Goals as goal

pub overflow_sub-result : goal.overflow_sub-result
overflow_sub-result c = (whole_wrong message_placed c.args.bytes.now c.in-Err-Wrong.left (from_index c.args.bytes.now (λ i. omega (arith, c.type_inv.bytes i))) (rw c.in-Err-Wrong.field-0-is at c.in-Err-Wrong.ensures)).0

pub returns-in-Ok-clause-found : goal.returns-in-Ok-clause-found
returns-in-Ok-clause-found c = whole_takes message_placed.codec c.args.bytes.now c.in-Ok.message (from_index c.args.bytes.now (λ i. omega (arith, c.type_inv.bytes i))) c.in-Ok.ensures

pub returns-in-Ok-clause-again : goal.returns-in-Ok-clause-again
returns-in-Ok-clause-again c m fits e = ok_is _ _ (sym c.in-Ok.ensures ∙ ap (whole message) e ∙ whole_again message_placed.codec m fits)

pub returns-in-Err-Wrong-clause-again : goal.returns-in-Err-Wrong-clause-again
returns-in-Err-Wrong-clause-again c m fits e =
    let failed = rw c.in-Err-Wrong.field-0-is at c.in-Err-Wrong.ensures in
    let read = ap (whole message) e ∙ whole_again message_placed.codec m fits in cc

pub returns-in-Err-Wrong-clause-bad : goal.returns-in-Err-Wrong-clause-bad
returns-in-Err-Wrong-clause-bad c place kind e =
    let wrong = whole_wrong message_placed c.args.bytes.now c.in-Err-Wrong.left (from_index c.args.bytes.now (λ i. omega (arith, c.type_inv.bytes i))) (rw c.in-Err-Wrong.field-0-is at c.in-Err-Wrong.ensures) in
    let same_place : length c.args.bytes.now - c.in-Err-Wrong.left ≡ place = cc in
    let same_kind : c.kind_of-kind.result ≡ kind = cc in
    (subst (IsFirstWrong message c.args.bytes.now) same_place wrong.1, sym same_kind ∙ c.kind_of-kind.ensures)
