use Rattle.std.proofs.Common.{◌≡◌, true, false}
use Rattle.script_play.proofs.Words.{options_parts, options_step, options_end, with_iff, when_false, when_true}
use Rattle.script_play.proofs.settings.are_options.Goals as goal

pub returns-then-not-is_option : goal.returns-then-not-is_option
returns-then-not-is_option c = (λ t. let f : false ≡ true = t in cc, λ o. let r : c.is_option.result ≡ false = (let i = c.if-not-is_option.true in cc) in absurd (when_false r c.is_option.ensures (options_parts _ _ _ c.in-len2-up.len_at_least c.name-item.is c.value-item.is (c.loop-left.invariant.1 o)).0))

pub returns-then-is_named : goal.returns-then-is_named
returns-then-is_named c = (λ t. let f : false ≡ true = t in cc, λ o. absurd ((options_parts _ _ _ c.in-len2-up.len_at_least c.name-item.is c.value-item.is (c.loop-left.invariant.1 o)).1 (when_true c.if-is_named.true c.is_named.ensures)))

pub loop-left-preserved : goal.loop-left-preserved
loop-left-preserved c = with_iff (options_step _ _ _ c.in-len2-up.len_at_least c.name-item.is c.value-item.is (when_true c.if-not-is_option.false c.is_option.ensures) (when_false c.if-is_named.false c.is_named.ensures)) c.loop-left.invariant

pub returns : goal.returns
returns c = with_iff (options_end _ _ c.in_default.len_below c.is_empty.ensures) c.loop-left.invariant
