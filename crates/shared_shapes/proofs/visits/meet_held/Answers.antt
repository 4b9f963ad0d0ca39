use Rattle.std.proofs.Common.{sym, ◌∙◌}
use Rattle.shared_shapes.proofs.Boards.{board_legal}
use Rattle.shared_shapes.proofs.Visiting.{found_is_ready}
use Rattle.shared_shapes.proofs.visits.meet_held.Goals as goal

pub visit-requires-clause-ready : goal.visit-requires-clause-ready
visit-requires-clause-ready g c = let s = c.args.state.now in let h = c.args.held.now in
    let r = found_is_ready h.fixed h.seen c.args.ask.now c.in-Ready.number (board_legal s.about s.registry s.fed s.given h.fixed h.seen c.requires) (sym c.found.ensures ∙ c.in-Ready.is) in (r.live, r.ready)

pub before-before-requires-clause-live : goal.before-before-requires-clause-live
before-before-requires-clause-live g c = let s = c.args.state.now in let h = c.args.held.now in
    (found_is_ready h.fixed h.seen c.args.ask.now c.in-Ready.number (board_legal s.about s.registry s.fed s.given h.fixed h.seen c.requires) (sym c.found.ensures ∙ c.in-Ready.is)).live
