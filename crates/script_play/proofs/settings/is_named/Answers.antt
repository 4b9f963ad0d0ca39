use Rattle.std.proofs.Common.{◌≡◌, true, false, sym, ◌∙◌}
use Rattle.shape_base.proofs.Lemmas.{Decides-same_text}
use Rattle.script_play.proofs.Words.{named_step, not_named, with_iff}
use Rattle.script_play.proofs.settings.is_named.Goals as goal

pub loop-left-preserved : goal.loop-left-preserved
loop-left-preserved c = with_iff (named_step _ c.other-item.result _ c.in-len2-up.len_at_least c.other-item.is (λ e. let t = (Decides-same_text _ _).1 (c.as_str.ensures.value ∙ e ∙ sym c.as_str-in-len2-up.ensures.value) in let f = c.if-eq.false in let r = c.eq.ensures in cc)) c.loop-left.invariant

pub returns : goal.returns
returns c = (λ t. let f : false ≡ true = t in cc, λ n. absurd (not_named _ _ c.in_default.len_below (c.loop-left.invariant.1 n)))
