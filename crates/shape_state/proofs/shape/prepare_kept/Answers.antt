use Rattle.std.proofs.Common.{subst}
use Rattle.shape_state.specs.Reading.{reader_of}
use Rattle.shape_state.specs.Standing.{Keeps}
use Rattle.shape_state.proofs.Fates.{prepared_ok}
use Rattle.shape_state.proofs.shape.prepare_kept.Goals as goal

pub returns-in-Waiting-clause-prepared : goal.returns-in-Waiting-clause-prepared
returns-in-Waiting-clause-prepared g c = λ events keeps.
    let r = reader_of (g.T.RowTest.knows c.args.emitter.now.test) (g.T.RowTest.unread c.args.emitter.now.test) in
    let is = subst (Keeps r c.args.limits.now events) c.in-Waiting.is keeps in
    prepared_ok r c.args.limits.now events c.args.tx.now c.args.others c.prepare_waiting.result is.stands (c.prepare_waiting.ensures.prepared r events c.args.others is)
