use Rattle.std.proofs.Common.{sym, ◌∙◌}
use Rattle.shape_base.proofs.Lemmas.{Decides-same_text}
use Rattle.script_play.proofs.Words.{words_step, with_iff}
use Rattle.script_play.proofs.settings.are_words.Goals as goal

pub returns-then-eq : goal.returns-then-eq
returns-then-eq c = with_iff c.are_options.ensures (words_step _ _ c.in-len1-up.len_at_least c.first-item.is (sym c.as_str.ensures.value ∙ (Decides-same_text _ _).0 (sym c.eq.ensures ∙ c.if-eq.true)))
