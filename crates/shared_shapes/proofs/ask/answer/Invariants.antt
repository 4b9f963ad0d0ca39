use Rattle.shared_shapes.specs.Asking.{AsksOn}
use Rattle.shared_shapes.specs.Seats.{AreSeats}
use Rattle.shared_shapes.proofs.ask.answer.Given as goal

-- the rounds so far are asks
abbrev pub invariant-loop : goal.invariant-loop
invariant-loop g l = AsksOn g.T.RowTest.knows g.T.RowTest.unread l.initial.pass.reg l.pass.reg l.initial.pass.seats l.pass.seats × AreSeats l.pass.reg.seen l.pass.seats × (goal.iterator-loop g).can_next l.iterator' × (goal.iterator-loop g).is_finite l.iterator'
