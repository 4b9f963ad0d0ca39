use Rattle.std.proofs.Common.{◌≡◌, ◌∙◌, subst}
use Rattle.std.specs.Option.{OnSome}
use Rattle.std.specs.FinMap as fin
use Rattle.std.proofs.lemmas.Bool.{false≢true}
use Rattle.shared_shapes.specs.Events.{events_of}
use Rattle.shared_shapes.specs.Board.{start_of}
use Rattle.shared_shapes.proofs.Boards.{board_kept}
use Rattle.shared_shapes.proofs.board.Board.visit.Goals as goal

pub unreachable-requires : goal.unreachable-requires
unreachable-requires g c = false≢true (c.in_default.ensures.by_history (start_of c.args.self.now.about) (events_of c.args.held.now.seen) c.requires.stands.stands ∙ c.requires.ready.0)

pub returns-clause-stands : goal.returns-clause-stands
returns-clause-stands g c = let s = c.args.self.now in let k = c.visit.new.self in let hold = c.kept_mut.follows.holds k in
    let kept = subst (λ r. OnSome r ((c.kept_mut.follows.lender k).kept ≡ fin.insert s.registry.kept c.args.number k)) c.in-Some.is hold.1 in
    board_kept s.about s.registry s.fed s.given c.args.held.now.fixed c.args.held.now.seen c.requires.stands c.args.number c.in-Some.slot.now k (c.kept_mut.follows.lender k) hold.0 kept c.in-Some.ensures.kept
    c.visit.ensures.lock c.visit.ensures.seen c.visit.ensures.ready
