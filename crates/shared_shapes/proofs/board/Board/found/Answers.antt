use Rattle.std.proofs.Common.{sym, ap, ◌∙◌}
use Rattle.shape_registry.specs.ByHistory.{found_after}
use Rattle.shared_shapes.specs.Events.{events_of}
use Rattle.shared_shapes.specs.Board.{start_of}
use Rattle.shared_shapes.specs.Asking.{run_in}
use Rattle.shared_shapes.proofs.board.Board.found.Goals as goal

pub returns : goal.returns
returns g c = let es = events_of c.args.held.now.seen in c.lookup.ensures.by_history (start_of c.args.self.now.about) es c.requires.stands
    ∙ ap (λ f. found_after (run_in f) es c.args.ask.now.identity c.args.ask.now.named) (sym c.requires.fixed)
