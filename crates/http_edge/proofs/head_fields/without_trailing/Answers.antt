use Rattle.std.proofs.Common.{sym, ap, ◌∙◌, reverse}
use Rattle.httparse.specs.Grammar.{skip_ows}
use Rattle.http_edge.proofs.FieldLaws.{skip_white_behind, skip_other_behind}
use Rattle.http_edge.proofs.head_fields.without_trailing.Goals as goal

pub returns-then-not-is_white : goal.returns-then-not-is_white
returns-then-not-is_white c = sym (skip_other_behind _ _ _ _ c.in-Some.ensures c.is_white.ensures c.if-not-is_white.true) ∙ c.white.invariant

pub white-preserved : goal.white-preserved
white-preserved c = sym (skip_white_behind _ _ _ _ c.in-Some.ensures c.is_white.ensures c.if-not-is_white.false) ∙ c.white.invariant

pub returns : goal.returns
returns c = ap reverse c.in_default.ensures ∙ sym (ap (λ l. skip_ows (reverse l)) c.in_default.ensures) ∙ c.white.invariant
