use Rattle.std.proofs.Common.{sym, ◌≡◌, subst}
use Rattle.std.specs.Option.{OnSome}
use Rattle.std.specs.FinMap as fin
use Rattle.shared_shapes.proofs.Seating.{at_ok, at_err}
use Rattle.shared_shapes.proofs.seats.snap_at.Goals as goal

pub returns-clause-snaps : goal.returns-clause-snaps
returns-clause-snaps g c = let k = c.snap.new.self in at_ok c.snap.result c.args.seats.now (c.get_mut.follows.lender k) c.args.number c.in-Some.seat.now k _ (sym c.in-Some.ensures.value)
    (subst (λ r. OnSome r (c.get_mut.follows.lender k ≡ fin.insert c.args.seats.now c.args.number k)) c.in-Some.is (c.get_mut.follows.holds k)) c.snap.ensures.snaps

pub returns-clause-refused : goal.returns-clause-refused
returns-clause-refused g c = let k = c.snap.new.self in at_err c.snap.result c.args.seats.now (c.get_mut.follows.lender k) c.args.number c.in-Some.seat.now k _ (sym c.in-Some.ensures.value)
    (subst (λ r. OnSome r (c.get_mut.follows.lender k ≡ fin.insert c.args.seats.now c.args.number k)) c.in-Some.is (c.get_mut.follows.holds k)) c.snap.ensures.refused
