use Rattle.std.proofs.Common.{◌≡◌, true, false, refl, sym, ◌∙◌, ap, subst, to_z, of_z}
use mir.Syntax.{w64}
use mir.Val.{SFits}
use Rattle.std.proofs.lemmas.Int.{to_z-of_z}
use Rattle.pg_values.specs.Values.{kind_under, has_value, number_value, is_within, limit_of}
use Rattle.pg_values.proofs.Numbers.{unparsed, no_text, parsed_value}
use Rattle.pg_values.proofs.value.read_int.Goals as goal

pub returns-in_default-clause-refused : goal.returns-in_default-clause-refused
returns-in_default-clause-refused c = (no_text (kind_under c.args.oid) c.args.text.now c.requires c.in_default.ensures.cases.0, refl)

pub returns-in_default-parse-clause-refused : goal.returns-in_default-parse-clause-refused
returns-in_default-parse-clause-refused c = (subst (λ t. has_value (kind_under c.args.oid) t ≡ false) c.in-Ok.ensures.cases.0 (unparsed (kind_under c.args.oid) c.in-Ok.text.now c.requires c.in_default-parse.ensures.value.0), refl)

pub returns-then-fits-clause-read : goal.returns-then-fits-clause-read
returns-then-fits-clause-read c = let kind = kind_under c.args.oid in let n = c.in-Ok-parse.number in let text = c.in-Ok.text.now in let same = c.in-Ok.ensures.cases.0 in
    let read = c.in-Ok-parse.ensures.value.0 in let fits : SFits w64 n = subst (SFits w64) (sym read.1) read.0.1 in let back : to_z w64 (of_z w64 n) ≡ n = to_z-of_z w64 n fits in
    let within : is_within (limit_of kind) n ≡ true = ap (is_within (limit_of kind)) (sym back) ∙ (ap (λ k. is_within (limit_of k) (to_z w64 (of_z w64 n))) (sym c.kind_of.ensures) ∙ (sym c.fits.ensures ∙ c.if-fits.true)) in
    (subst (λ t. has_value kind t ≡ true) same (parsed_value kind text n c.requires read.0.0 read.1 ∙ within), back ∙ (read.1 ∙ ap number_value same))
