use Rattle.std.proofs.Common.{◌+◌, ◌++◌, ◌∷◌, [], sym, ap, ◌∙◌, subst}
use Rattle.shape_base.specs.declared.registry_event.RegistryEvent.TheVariants.{Registered}
use Rattle.shape_registry.specs.State.{id_in}
use Rattle.shape_registry.proofs.Laws.{last_by_history}
use Rattle.shared_shapes.specs.Events.{began, place_in, events_of}
use Rattle.shared_shapes.specs.Board.{IsBoard, start_of}
use Rattle.shared_shapes.specs.Calls.{IsStartError}
use Rattle.shared_shapes.specs.Reasons.{reason_of}
use Rattle.shared_shapes.specs.Passes.{shapes_in}
use Rattle.shared_shapes.proofs.Boards.{served_here, board_registered, refused_is}
use Rattle.shared_shapes.proofs.board.Board.register.Goals as goal

pub register-requires : goal.register-requires
register-requires g c = let s = c.args.self.now in served_here s.about s.registry s.fed s.given c.args.held.now.fixed c.args.held.now.seen c.requires.stands c.args.table c.requires.served

pub returns-in-Ok-clause-number : goal.returns-in-Ok-clause-number
returns-in-Ok-clause-number g c = c.in-Ok.ensures.state.0 ∙ ap (λ k. k + 1) (sym c.requires.stands.count)

pub returns-in-Ok-clause-stands : goal.returns-in-Ok-clause-stands
returns-in-Ok-clause-stands g c = let s = c.args.self.now in let es = c.args.held.now.seen in
    subst (λ l. IsBoard s.about c.register.new.self s.fed c.in-Ok.number c.args.held.now.fixed (es ++ began (Registered c.in-Ok.number c.args.identity c.args.table l) (place_in c.args.slot.pass c.args.slot.ready) ∷ []))
    (last_by_history (start_of s.about) (events_of es) s.registry.state c.requires.stands.stands)
    (board_registered s.about s.registry s.fed s.given c.args.held.now.fixed es c.requires.stands c.in-Ok.number c.args.identity c.args.table (id_in s.registry.state) c.args.slot c.register.new.self
    (c.in-Ok.ensures.state.0 ∙ ap (λ k. k + 1) (sym c.requires.stands.count)) c.in-Ok.ensures.state.1 c.in-Ok.ensures.registered c.in-Ok.ensures.kept)

pub returns-in-Err-clause-refused : goal.returns-in-Err-clause-refused
returns-in-Err-clause-refused g c = let s = c.args.self.now in let es = events_of c.args.held.now.seen in
    subst (λ e. IsStartError (shapes_in c.args.held.now.fixed) es c.args.identity e) (sym c.reason.ensures)
    (subst (λ f. IsStartError (shapes_in f) es c.args.identity (reason_of c.in-Err.e)) (sym c.requires.stands.fixed)
    (refused_is s.about.limits.shapes es c.args.identity c.args.slot c.in-Err.e (c.in-Err.ensures.refused_by_history (start_of s.about) es c.requires.stands.stands)))
