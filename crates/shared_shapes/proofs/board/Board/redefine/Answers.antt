use Rattle.shared_shapes.proofs.Boards.{served_here, board_redefined}
use Rattle.shared_shapes.proofs.board.Board.redefine.Goals as goal

pub redefine-requires : goal.redefine-requires
redefine-requires g c = let s = c.args.self.now in served_here s.about s.registry s.fed s.given c.args.held.now.fixed c.args.held.now.seen c.requires.stands c.args.definition.table c.requires.served

pub returns : goal.returns
returns g c = let s = c.args.self.now in board_redefined s.about s.registry s.fed s.given c.args.held.now.fixed c.args.held.now.seen c.requires.stands c.args.definition c.redefine.new.self c.redefine.ensures.state c.redefine.ensures.redefined c.redefine.ensures.kept
