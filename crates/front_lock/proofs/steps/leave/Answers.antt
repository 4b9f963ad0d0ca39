use Rattle.std.proofs.Common.{rules}
use Rattle.front_lock.proofs.Keeps.{leave_keeps}
use Rattle.front_lock.proofs.steps.leave.Goals as goal

pub fetch_add-requires : goal.fetch_add-requires
fetch_add-requires g c = (search rules, search rules, leave_keeps _ _ _ _ c.args.ticket c.requires.stands.0 _ c.requires.noted c.requires.shares c.requires.stands.1 c.requires.stands.2)
