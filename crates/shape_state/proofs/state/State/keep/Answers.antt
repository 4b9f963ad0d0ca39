use Rattle.shape_state.proofs.Life.{keep_stands}
use Rattle.shape_state.proofs.state.State.keep.Goals as goal

pub returns-clause-stands : goal.returns-clause-stands
returns-clause-stands c = λ r events came others st lt p.
    keep_stands r c.args.self.now c.count.new.self c.in-Waiting.commits c.push.new.self c.args.tx events came others c.in-Waiting.is c.count.ensures.kept c.push.ensures c.count.ensures.limits c.count.ensures.took st lt p
