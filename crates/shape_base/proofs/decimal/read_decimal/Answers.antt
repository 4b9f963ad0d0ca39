use Rattle.std.proofs.Common.{sym, subst, ap, ◌∙◌, decimal}
use Rattle.std.proofs.lemmas.Fmt.{IsAscii-decimal}
use Rattle.std.proofs.lemmas.Str.{IsUtf8-from_ascii}
use Rattle.std.specs.Str.{IsUtf8}
use Rattle.shape_base.proofs.Decimals.{never_refused, parsed_as, apart}
use Rattle.shape_base.proofs.decimal.read_decimal.Goals as goal

pub returns-in_default-clause-refused : goal.returns-in_default-clause-refused
returns-in_default-clause-refused c _ n small e =
    c.in_default.ensures.cases.0 (subst IsUtf8 (sym e) (IsUtf8-from_ascii _ (IsAscii-decimal n small)))

pub returns-in_default-parse-clause-refused : goal.returns-in_default-parse-clause-refused
returns-in_default-parse-clause-refused c _ n small e =
    never_refused n c.in-Ok.text.now c.in_default-parse.field-0 small (c.in-Ok.ensures.cases.0 ∙ e) c.in_default-parse.ensures.value.0

pub returns-else-eq-clause-refused : goal.returns-else-eq-clause-refused
returns-else-eq-clause-refused c _ n small e =
    let same = c.in-Ok.ensures.cases.0 ∙ e in
    apart c.format.result.now c.in-Ok.text.now (sym c.eq.ensures ∙ c.if-eq.false)
    (c.format.ensures.text ∙ ap decimal (parsed_as n c.in-Ok-parse.number c.in-Ok.text.now small same c.in-Ok-parse.ensures.value.0) ∙ sym same)
