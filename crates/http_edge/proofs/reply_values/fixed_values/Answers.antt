use Rattle.std.proofs.Common.{sym, ◌∙◌, refl}
use Rattle.http_edge.specs.ReplySeen.{seen_fixed}
use Rattle.http_edge.proofs.ValueLaws.{status_refused, kind_refused, length_refused, age_refused, fixed_values_read}
use Rattle.http_edge.proofs.reply_values.fixed_values.Goals as goal

pub returns-in_err-status-clause-refused : goal.returns-in_err-status-clause-refused
returns-in_err-status-clause-refused c = λ _. status_refused (seen_fixed c.args.fixed.now) c.in_err-status.ensures

pub returns-in_err-length-clause-refused : goal.returns-in_err-length-clause-refused
returns-in_err-length-clause-refused c = λ _. length_refused (seen_fixed c.args.fixed.now) (c.in_err-length.ensures.refused refl)

pub returns-in_err-age-clause-refused : goal.returns-in_err-age-clause-refused
returns-in_err-age-clause-refused c = λ _. age_refused (seen_fixed c.args.fixed.now) (c.in_err-age.ensures.refused refl)

pub returns-clause-refused : goal.returns-clause-refused
returns-clause-refused c = λ _. kind_refused (seen_fixed c.args.fixed.now) (sym c.is_text.ensures ∙ c.if-is_text.false)

pub returns-then-is_text-clause-read : goal.returns-then-is_text-clause-read
returns-then-is_text-clause-read c = fixed_values_read (seen_fixed c.args.fixed.now) _ _ _ c.in_ok-status.ensures (sym c.is_text.ensures ∙ c.if-is_text.true) c.in_ok-length.ensures.read.0 c.in_ok-age.ensures.read c.in_ok-length.ensures.read.1 c.in_ok-age.ensures.small
