use Rattle.std.proofs.Common.{sym}
use Rattle.shape_state.specs.Reading.{reader_of}
use Rattle.shape_state.proofs.Fullness.{some_stop}
use Rattle.shape_state.proofs.adding.stopped.Goals as goal

pub unreachable-requires : goal.unreachable-requires
unreachable-requires g c =
    let r = reader_of (g.T.RowTest.knows c.args.emitter.now.test) (g.T.RowTest.unread c.args.emitter.now.test) in
    some_stop r c.args.tx.now c.in_ok-cause.field-0 (sym c.requires.stops) c.in_ok-cause.ensures c.in-None.is
