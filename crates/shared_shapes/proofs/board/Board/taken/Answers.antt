use Rattle.shared_shapes.specs.Events.{events_of}
use Rattle.shared_shapes.specs.Board.{start_of}
use Rattle.shared_shapes.proofs.board.Board.taken.Goals as goal

pub returns : goal.returns
returns g c = c.taken.ensures.by_history (start_of c.args.self.now.about) (events_of c.args.held.now.seen) c.requires.stands
