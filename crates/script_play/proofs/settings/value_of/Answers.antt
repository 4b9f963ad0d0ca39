use Rattle.std.proofs.Common.{◌∙◌}
use Rattle.shape_base.proofs.Lemmas.{Decides-same_text}
use Rattle.script_play.proofs.Words.{options_parts, set_end, set_step}
use Rattle.script_play.proofs.settings.value_of.Goals as goal

pub loop-left-preserved : goal.loop-left-preserved
loop-left-preserved c = record {
  options = (options_parts _ _ _ c.in-len2-up.len_at_least c.other-item.is c.value-item.is c.loop-left.invariant.options).2;
  same = λ n set. c.loop-left.invariant.same n (set_step _ _ _ _ _ n c.in-len2-up.len_at_least c.other-item.is c.value-item.is (λ e. let t = (Decides-same_text _ _).1 (c.as_bytes.ensures.value ∙ c.as_str.ensures.value ∙ e) in let f = c.if-eq.false in let r = c.eq.ensures in cc) set);
}

pub returns : goal.returns
returns c = c.loop-left.invariant.same _ (set_end _ _ _ c.in_default.len_below)
