use Rattle.std.proofs.Common.{◌≡◌, sym, ap, ◌∙◌, subst, Some}
use Rattle.std.specs.Option.{OnSome}
use Rattle.std.specs.FinMap as fin
use Rattle.shape_base.specs.declared.registry_event.RegistryEvent.TheVariants.{Ready}
use Rattle.shape_registry.specs.State.{standing_in, after}
use Rattle.shape_registry.specs.Registry.{Adds}
use Rattle.shape_registry.specs.declared.standing.Standing.TheVariants.{Starting}
use Rattle.shared_shapes.specs.Events.{events_of}
use Rattle.shared_shapes.specs.Board.{start_of}
use Rattle.shared_shapes.proofs.Boards.{kept_here, starting_here, board_ready, same_place, snapshot_on}
use Rattle.shared_shapes.proofs.board.Board.make_ready.Goals as goal

pub returns-in_default-clause-live : goal.returns-in_default-clause-live
returns-in_default-clause-live g c = c.in_default.ensures.by_history (start_of c.args.self.now.about) (events_of c.args.held.now.seen) c.requires.stands.stands

pub ready-requires : goal.ready-requires
ready-requires g c = let s = c.args.self.now in
    subst (λ st. standing_in st c.args.number ≡ Starting) (sym (c.kept_mut.follows.holds c.make_ready.new.self).0)
    (starting_here s.about s.registry s.fed s.given c.args.held.now.fixed c.args.held.now.seen c.requires.stands c.args.number c.in-Some.slot.now c.in-Some.ensures.kept c.make_ready.ensures.before
    (c.in-Some.ensures.by_history (start_of s.about) (events_of c.args.held.now.seen) c.requires.stands.stands))

pub returns-clause-live : goal.returns-clause-live
returns-clause-live g c = c.in-Some.ensures.by_history (start_of c.args.self.now.about) (events_of c.args.held.now.seen) c.requires.stands.stands

pub returns-clause-stands : goal.returns-clause-stands
returns-clause-stands g c = let s = c.args.self.now in let k = c.make_ready.new.self in let hold = c.kept_mut.follows.holds k in
    let kept = subst (λ r. OnSome r ((c.kept_mut.follows.lender k).kept ≡ fin.insert s.registry.kept c.args.number k)) c.in-Some.is hold.1 in
    let was = kept_here s.about s.registry s.fed s.given c.args.held.now.fixed c.args.held.now.seen c.requires.stands c.args.number c.in-Some.slot.now c.in-Some.ensures.kept in
    board_ready s.about s.registry s.fed s.given c.args.held.now.fixed c.args.held.now.seen c.requires.stands c.args.number k c.ready.new.self
    (c.ready.ensures.state ∙ ap (λ st. after st (Ready c.args.number)) hold.0)
    (subst (λ st. Adds st (Ready c.args.number) c.ready.new.self.state) hold.0 c.ready.ensures.ready)
    (c.ready.ensures.kept ∙ kept)
    (was.place ∙ ap Some (same_place c.in-Some.slot.now.pass k.pass c.in-Some.slot.now.ready k.ready c.make_ready.ensures.lock c.make_ready.ensures.after.0))
    (snapshot_on c.args.note.seen k.pass.seen c.make_ready.ensures.seen c.requires.snapped)
    c.make_ready.ensures.after.1
