use Rattle.std.proofs.Common.{sym, ◌∙◌, refl, ap, decimal}
use Rattle.http_edge.proofs.ValueLaws.{age_behind, age_digits, age_number, age_text, no_store}
use Rattle.http_edge.proofs.reply_values.age_in.Goals as goal

pub returns-in_err-digits-clause-refused : goal.returns-in_err-digits-clause-refused
returns-in_err-digits-clause-refused c = λ _. age_behind c.args.value.now (sym c.is_text.ensures ∙ c.if-is_text.false) c.in_err-digits.ensures.read

pub returns-in_err-number-clause-refused : goal.returns-in_err-number-clause-refused
returns-in_err-number-clause-refused c = λ _. age_digits c.args.value.now _ (sym c.is_text.ensures ∙ c.if-is_text.false) c.in_ok-digits.ensures.read (c.in_err-number.ensures.refused refl)

pub returns-in_err-age-clause-refused : goal.returns-in_err-age-clause-refused
returns-in_err-age-clause-refused c = λ _. age_number c.args.value.now _ _ (sym c.is_text.ensures ∙ c.if-is_text.false) c.in_ok-digits.ensures.read c.in_ok-number.ensures.read c.in_err-age.ensures.small (c.in_err-age.ensures.refused refl)

pub returns-clause-read : goal.returns-clause-read
returns-clause-read c = age_text c.args.value.now _ _ c.in_ok-digits.ensures.whole (c.in_ok-number.ensures.read ∙ ap decimal (sym c.in_ok-age.ensures.read.0)) c.in_ok-age.ensures.read.1

pub returns-then-is_text-clause-read : goal.returns-then-is_text-clause-read
returns-then-is_text-clause-read c = no_store c.args.value.now (sym c.is_text.ensures ∙ c.if-is_text.true)
