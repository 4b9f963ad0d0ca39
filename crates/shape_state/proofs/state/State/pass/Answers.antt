use Rattle.shape_state.proofs.Life.{pass_stands}
use Rattle.shape_state.proofs.state.State.pass.Goals as goal

pub returns-clause-stands : goal.returns-clause-stands
returns-clause-stands c = λ r events tx others st lt p. pass_stands r c.args.self.now c.count.new.self c.in-Logging.logging events tx others c.in-Logging.is c.count.ensures.kept c.count.ensures.limits c.count.ensures.took st lt p
