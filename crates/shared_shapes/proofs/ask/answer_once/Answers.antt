use Rattle.std.proofs.Common.{subst}
use Rattle.std.specs.FinMap as fin
use Rattle.shared_shapes.specs.Asking.{run_in, IsMet}
use Rattle.shared_shapes.proofs.Boards.{snapshot_on}
use Rattle.shared_shapes.proofs.Seating.{seats_on}
use Rattle.shared_shapes.proofs.Visiting.{same_lock_at, never_starting, told_answers, shaped_answers}
use Rattle.shared_shapes.proofs.ask.answer_once.Goals as goal

pub visit_at-requires-clause-lock : goal.visit_at-requires-clause-lock
visit_at-requires-clause-lock g c = let n = c.in-Ok-Shape.number in let old = c.args.pass.now in
    same_lock_at c.meet.new.me.seen n c.in-Ok-Shape.seat (fin.get old.seats n) (seats_on old.reg.seen c.meet.new.me.seen old.seats c.in-Ok-Shape.ensures.on.seen c.requires.known n) (subst (λ m. IsMet (run_in c.meet.new.me.fixed) c.meet.new.me.seen c.args.ask.now m) c.in-Ok-Shape.field-0-is c.in-Ok-Shape.ensures.met).2.seat

pub shaped-requires : goal.shaped-requires
shaped-requires g c = let w = c.in-Ok.ensures.visits in
    never_starting g.T.RowTest.knows g.T.RowTest.unread w.after.pass.fixed w.after.pass.seen c.place_of-place.result.0 c.place_of-place.result.1 _ c.in-Ok.looked.paged w.paged_is
    (snapshot_on c.in-Ok-Shape.seat.pass.seen w.after.pass.seen w.seen (subst (λ m. IsMet (run_in c.meet.new.me.fixed) c.meet.new.me.seen c.args.ask.now m) c.in-Ok-Shape.field-0-is c.in-Ok-Shape.ensures.met).2.snapshot)

pub returns-in-Ok-Told-clause-answers : goal.returns-in-Ok-Told-clause-answers
returns-in-Ok-Told-clause-answers g c = told_answers g.T.RowTest.knows g.T.RowTest.unread c.meet.new.me c.args.pass.now.seats c.args.ask.now c.args.late c.in-Ok-Told.asked c.in-Ok-Told.count c.in-Ok-Told.ensures.on.legal
    (subst (λ m. IsMet (run_in c.meet.new.me.fixed) c.meet.new.me.seen c.args.ask.now m) c.in-Ok-Told.field-0-is c.in-Ok-Told.ensures.met).0 (subst (λ m. IsMet (run_in c.meet.new.me.fixed) c.meet.new.me.seen c.args.ask.now m) c.in-Ok-Told.field-0-is c.in-Ok-Told.ensures.met).1

pub returns-in-Ok-Told-clause-known : goal.returns-in-Ok-Told-clause-known
returns-in-Ok-Told-clause-known g c = seats_on c.args.pass.now.reg.seen c.meet.new.me.seen c.args.pass.now.seats c.meet.ensures.on.seen c.requires.known

pub returns-in-Ok-shaped-clause-answers : goal.returns-in-Ok-shaped-clause-answers
returns-in-Ok-shaped-clause-answers g c = shaped_answers g.T.RowTest.knows g.T.RowTest.unread c.meet.new.me c.visit_at.new.seats c.in-Ok-Shape.number c.in-Ok-Shape.seat c.args.ask.now c.args.late c.place_of-place.result.0 c.place_of-place.result.1 c.in-Ok.looked c.in-Ok-shaped.asked c.in-Ok-Shape.before c.saturating_add.result
    c.in-Ok-Shape.ensures.on.legal (subst (λ m. IsMet (run_in c.meet.new.me.fixed) c.meet.new.me.seen c.args.ask.now m) c.in-Ok-Shape.field-0-is c.in-Ok-Shape.ensures.met).0 c.place_of-place.ensures.offset c.place_of-place.ensures.live c.in-Ok.ensures.visits c.in-Ok-shaped.ensures.told
    (subst (λ m. IsMet (run_in c.meet.new.me.fixed) c.meet.new.me.seen c.args.ask.now m) c.in-Ok-Shape.field-0-is c.in-Ok-Shape.ensures.met).1 c.saturating_add.ensures

pub returns-in-Ok-shaped-clause-known : goal.returns-in-Ok-shaped-clause-known
returns-in-Ok-shaped-clause-known g c = c.visit_at.ensures.known c.meet.new.me.seen (seats_on c.args.pass.now.reg.seen c.meet.new.me.seen c.args.pass.now.seats c.meet.ensures.on.seen c.requires.known) (subst (λ m. IsMet (run_in c.meet.new.me.fixed) c.meet.new.me.seen c.args.ask.now m) c.in-Ok-Shape.field-0-is c.in-Ok-Shape.ensures.met).2.seat

pub returns-in-Err-shaped-clause-known : goal.returns-in-Err-shaped-clause-known
returns-in-Err-shaped-clause-known g c = seats_on c.meet.new.me.seen c.remove.new.me.seen c.visit_at.new.seats c.remove.ensures.on.seen
    (c.visit_at.ensures.known c.meet.new.me.seen (seats_on c.args.pass.now.reg.seen c.meet.new.me.seen c.args.pass.now.seats c.meet.ensures.on.seen c.requires.known) (subst (λ m. IsMet (run_in c.meet.new.me.fixed) c.meet.new.me.seen c.args.ask.now m) c.in-Ok-Shape.field-0-is c.in-Ok-Shape.ensures.met).2.seat)

pub returns-in-Err-visit_at-clause-known : goal.returns-in-Err-visit_at-clause-known
returns-in-Err-visit_at-clause-known g c = c.visit_at.ensures.known c.meet.new.me.seen (seats_on c.args.pass.now.reg.seen c.meet.new.me.seen c.args.pass.now.seats c.meet.ensures.on.seen c.requires.known) (subst (λ m. IsMet (run_in c.meet.new.me.fixed) c.meet.new.me.seen c.args.ask.now m) c.in-Ok-Shape.field-0-is c.in-Ok-Shape.ensures.met).2.seat

pub returns-in-Err-clause-known : goal.returns-in-Err-clause-known
returns-in-Err-clause-known g c = seats_on c.args.pass.now.reg.seen c.meet.new.me.seen c.args.pass.now.seats c.meet.ensures.on.seen c.requires.known
