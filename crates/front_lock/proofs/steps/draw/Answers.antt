use Rattle.std.proofs.Common.{◌<◌, sym, subst, rules, refl, ap, ◌∙◌}
use Rattle.front_lock.proofs.Keeps.{draw_keeps}
use Rattle.front_lock.proofs.steps.draw.Goals as goal

pub compare_exchange-found-requires : goal.compare_exchange-found-requires
compare_exchange-found-requires g c = (search rules, search rules, draw_keeps _ _ _ _ _ _ _ (ap (λ m. m.0.stage) (c.loop.invariant.2 ∙ c.requires.idle)) (subst (λ m. 0 < m.0.part) (sym c.loop.invariant.2) c.requires.shares) (search rules) refl)
