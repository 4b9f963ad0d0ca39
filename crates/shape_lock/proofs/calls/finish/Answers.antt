use Rattle.shape_lock.proofs.Holding.{on_one, goes_from}
use Rattle.shape_lock.proofs.calls.finish.Goals as goal

pub returns-clause-on : goal.returns-clause-on
returns-clause-on g c = on_one c.finish_held.result.1 _ _ (goes_from g.T.RowTest.knows g.T.RowTest.unread c.args.pass c.take-held.result.0 c.finish_held.result.0 _ c.take-held.ensures.lock.0 c.take-held.ensures.lock.1 c.take-held.ensures.seen c.take-held.ensures.mine.1) c.finish_held.ensures.on
