use Rattle.std.proofs.Common.{[], ◌++◌, sym, subst, append-nil}
use Rattle.shared_shapes.specs.Events.{events_of}
use Rattle.shared_shapes.specs.Board.{IsBoard, start_of}
use Rattle.shared_shapes.proofs.Boards.{board_removed}
use Rattle.shared_shapes.proofs.board.Board.remove.Goals as goal

pub returns-clause-live : goal.returns-clause-live
returns-clause-live g c = c.in-Some.ensures.by_history (start_of c.args.self.now.about) (events_of c.args.held.now.seen) c.requires.stands

pub returns-clause-stands : goal.returns-clause-stands
returns-clause-stands g c = let s = c.args.self.now in board_removed s.about s.registry s.fed s.given c.args.held.now.fixed c.args.held.now.seen c.requires c.args.number c.args.cause c.remove.new.self c.in-Some.ensures.state c.in-Some.ensures.removed c.in-Some.ensures.kept

pub returns-in_default-clause-live : goal.returns-in_default-clause-live
returns-in_default-clause-live g c = c.in_default.ensures.by_history (start_of c.args.self.now.about) (events_of c.args.held.now.seen) c.requires.stands

pub returns-in_default-clause-stands : goal.returns-in_default-clause-stands
returns-in_default-clause-stands g c = let s = c.args.self.now in
    subst (λ r. IsBoard s.about r s.fed s.given c.args.held.now.fixed (c.args.held.now.seen ++ [])) (sym c.in_default.ensures.unchanged)
    (subst (λ es. IsBoard s.about s.registry s.fed s.given c.args.held.now.fixed es) (sym (append-nil c.args.held.now.seen)) c.requires)
