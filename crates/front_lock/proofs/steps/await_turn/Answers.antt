use Rattle.std.proofs.Common.{rules, ap, ◌∙◌}
use Rattle.front_lock.proofs.Keeps.{turn_keeps}
use Rattle.front_lock.proofs.steps.await_turn.Goals as goal

pub load-serving-requires : goal.load-serving-requires
load-serving-requires g c = (search rules, search rules, turn_keeps _ _ _ _ c.args.ticket _ (ap (λ m. m.0.stage) (c.loop.invariant.2 ∙ c.requires.waits)))
