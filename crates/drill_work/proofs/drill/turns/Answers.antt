use Rattle.std.proofs.Common.{arith}
use Rattle.drill_work.proofs.Loops.{turn_more, turns_done}
use Rattle.drill_work.specs.Rounds.{begun, turns}
use Rattle.drill_work.proofs.drill.turns.Goals as goal

pub loop-preserved : goal.loop-preserved
loop-preserved c =
    (rw c.in_ok-push.ensures.ok (turn_more c.loop.all 2000 c.loop.counter c.loop.drill c.round.new.self c.in_ok-round.field-0 (turns 2000 (begun c.args.number)) c.loop-test.true c.in_ok-round.ensures.round c.loop.invariant.0), (c.in_ok-round.ensures.sound, omega (arith, c.in_ok-round.ensures.one, c.loop.invariant.1.1)))

pub returns : goal.returns
returns c = turns_done c.loop.all 2000 c.loop.counter c.loop.drill (turns 2000 (begun c.args.number)) c.loop-test.false c.loop.invariant.0
