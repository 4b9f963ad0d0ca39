use Rattle.std.proofs.Common.{sym, ◌≡◌, subst}
use Rattle.std.specs.Option.{OnSome}
use Rattle.std.specs.FinMap as fin
use Rattle.shared_shapes.proofs.copies.copy_at.Goals as goal

pub returns-clause-same : goal.returns-clause-same
returns-clause-same g c = let k = c.copy.new.self in record {
  before = c.in-Some.seat.now;
  after = k;
  was = sym c.in-Some.ensures.value;
  now = subst (λ r. OnSome r (c.get_mut.follows.lender k ≡ fin.insert c.args.seats.now c.args.number k)) c.in-Some.is (c.get_mut.follows.holds k);
  on = c.copy.ensures.same;
}
