use Rattle.shape_state.proofs.Life.{stop_stands}
use Rattle.shape_state.proofs.state.State.stop.Goals as goal

pub returns-clause-stands : goal.returns-clause-stands
returns-clause-stands c = λ r events tx others st lt p. stop_stands r c.args.self.now c.count.new.self c.args.cause events tx others c.count.ensures.kept c.count.ensures.limits c.count.ensures.took st lt p
