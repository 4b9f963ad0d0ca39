use Rattle.shape_replay.proofs.Headlines.{headline_of}
use Rattle.shape_replay.proofs.running.run.Goals as goal

pub returns-clause-headline : goal.returns-clause-headline
returns-clause-headline g c t u are = headline_of c.headline.ensures _ _ _ _ _ _ _ c.play.result u (c.play.ensures.came_out _ (c.limits_of-limits.ensures) t)
