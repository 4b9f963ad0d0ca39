use Rattle.std.proofs.Common.{rules}
use Rattle.shared_shapes.proofs.Visiting.{asks_same, asks_trans}
use Rattle.shared_shapes.proofs.ask.answer.Goals as goal

pub loop-init : goal.loop-init
loop-init g c = (asks_same g.T.RowTest.knows g.T.RowTest.unread c.args.pass.now.reg c.args.pass.now.seats, c.requires.known, search rules, search rules)

pub returns-in-Ok-Some-clause-on : goal.returns-in-Ok-Some-clause-on
returns-in-Ok-Some-clause-on g c = let q = c.answer_once.new.pass in asks_trans g.T.RowTest.knows g.T.RowTest.unread c.args.pass.now.reg c.loop.pass.reg q.reg c.args.pass.now.seats c.loop.pass.seats q.seats c.loop.invariant.0 c.answer_once.ensures.on

pub loop-preserved : goal.loop-preserved
loop-preserved g c = let q = c.answer_once.new.pass in (asks_trans g.T.RowTest.knows g.T.RowTest.unread c.args.pass.now.reg c.loop.pass.reg q.reg c.args.pass.now.seats c.loop.pass.seats q.seats c.loop.invariant.0 c.answer_once.ensures.on, c.answer_once.ensures.known, search rules, search rules)

pub returns-in-Err-clause-on : goal.returns-in-Err-clause-on
returns-in-Err-clause-on g c = let q = c.answer_once.new.pass in asks_trans g.T.RowTest.knows g.T.RowTest.unread c.args.pass.now.reg c.loop.pass.reg q.reg c.args.pass.now.seats c.loop.pass.seats q.seats c.loop.invariant.0 c.answer_once.ensures.on
