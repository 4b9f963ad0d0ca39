use Rattle.std.proofs.Common.{◌∙◌, sym, arith}
use Rattle.shape_state.specs.Reading.{reader_of}
use Rattle.shape_state.proofs.Causes.{stops_here}
use Rattle.shape_state.proofs.stopping.first_stop.Goals as goal

pub returns-then-is_some : goal.returns-then-is_some
returns-then-is_some g c =
    let r = reader_of (g.T.RowTest.knows c.args.emitter.now.test) (g.T.RowTest.unread c.args.emitter.now.test) in
    stops_here r c.args.tx.now c.loop-j.j c.at.result.now c.in_ok-stop.stop (omega arith) c.at.ensures c.loop-j.invariant c.in_ok-stop.ensures (sym c.is_some.ensures ∙ c.if-is_some.true)
