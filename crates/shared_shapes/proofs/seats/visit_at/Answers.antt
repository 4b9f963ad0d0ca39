use Rattle.shared_shapes.proofs.Visiting.{got, there, visit_on, visit_known, visits}
use Rattle.std.specs.FinMap as fin
use Rattle.shared_shapes.proofs.seats.visit_at.Goals as goal

pub look_at-requires : goal.look_at-requires
look_at-requires g c = let a = c.in_ok-admit.ensures.admits in there (fin.get c.admit.new.seats c.args.number) a.after (got c.args.seats.now c.admit.new.seats c.args.number a.after a.now)

pub returns-clause-on : goal.returns-clause-on
returns-clause-on g c = visit_on g.T.RowTest.knows g.T.RowTest.unread c.args.seats.now c.admit.new.seats c.look_at.new.seats c.args.number c.args.visitor c.args.place.0 c.args.place.1 c.args.late c.look_at.result c.in_ok-admit.ensures.admits c.look_at.ensures

pub returns-clause-known : goal.returns-clause-known
returns-clause-known g c = visit_known g.T.RowTest.knows g.T.RowTest.unread c.args.seats.now c.admit.new.seats c.look_at.new.seats c.args.number c.args.visitor c.args.place.0 c.args.place.1 c.args.late c.look_at.result c.in_ok-admit.ensures.admits c.look_at.ensures

pub returns-clause-visits : goal.returns-clause-visits
returns-clause-visits g c = visits g.T.RowTest.knows g.T.RowTest.unread c.args.seats.now c.admit.new.seats c.look_at.new.seats c.args.number c.args.visitor c.args.place.0 c.args.place.1 c.args.late c.look_at.result c.in_ok-admit.ensures.admits c.look_at.ensures
