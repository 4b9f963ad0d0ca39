use Rattle.shape_replay.proofs.Saying.{nothing_said}
use Rattle.shape_replay.proofs.running.tell.Goals as goal

pub returns-in-Ok-clause-said : goal.returns-in-Ok-clause-said
returns-in-Ok-clause-said g c t = rw c.in-Ok.is (nothing_said _ _)
