use Rattle.std.proofs.Common.{rules, ◌≡◌, ap, ◌∙◌}
use Rattle.std.specs.FinMap as fin
use Rattle.shared_shapes.proofs.Boards.{put_cut, unseated}
use Rattle.shared_shapes.proofs.steps.enter.Goals as goal

pub returns-in-Err-register-clause-same_seats : goal.returns-in-Err-register-clause-same_seats
returns-in-Err-register-clause-same_seats g c = let s = c.args.state.now in
    let i : c.insert.new.self ≡ fin.insert c.args.seats.now c.in-Some.next c.args.seat = search rules in
    c.remove.ensures ∙ ap (λ m. fin.remove m c.in-Some.next) i
    ∙ put_cut c.args.seats.now c.in-Some.next c.args.seat (ap (fin.get c.args.seats.now) c.in-Some.ensures.some
    ∙ unseated s.about s.registry s.fed s.given c.args.held.now.fixed c.args.held.now.seen c.requires.stands c.args.seats.now c.requires.seats)
