use Rattle.std.proofs.Common.{arith}
use Rattle.drill_work.proofs.Loops.{goes_on, is_done}
use Rattle.drill_work.specs.Changes.{changes}
use Rattle.drill_work.proofs.change.changes.Goals as goal

pub loop-preserved : goal.loop-preserved
loop-preserved c =
    (rw c.in_ok-push.ensures.ok (goes_on c.loop.statements c.args.count c.loop.counter c.loop.chance.state c.change.new.chance.state c.loop.plain c.change.new.plain c.in_ok-statement.statement (changes c.args.count c.args.chance.now.state c.args.plain.now) c.loop-test.true c.in_ok-statement.ensures.makes c.loop.invariant.0), omega (arith, c.loop.invariant.1, c.change.ensures.ids))

pub returns-clause-makes : goal.returns-clause-makes
returns-clause-makes c = is_done c.loop.statements c.args.count c.loop.counter c.loop.chance.state c.loop.plain (changes c.args.count c.args.chance.now.state c.args.plain.now) c.loop-test.false c.loop.invariant.0
