use Rattle.std.proofs.Common.{rules}
use Rattle.shape_lock.proofs.calls.look.Goals as goal

pub returns-in-Ok-clause-took : goal.returns-in-Ok-clause-took
returns-in-Ok-clause-took g c = let t = (c.in-Ok.ensures c.args.pass.fixed c.take-held.result.0.seen c.take-held.ensures.stands).1 in search (rules, t)
