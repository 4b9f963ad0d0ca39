use Rattle.std.proofs.Common.{sym, ◌≡◌, ◌∙◌, subst, Some}
use Rattle.std.specs.Prelude.{IfSome}
use Rattle.std.specs.Option.{OnSome}
use Rattle.std.specs.FinMap as fin
use Rattle.shared_shapes.specs.Seats.{IsSeat}
use Rattle.shared_shapes.specs.Asking.{IsOn}
use Rattle.shared_shapes.proofs.Visiting.{seat_follows}
use Rattle.shared_shapes.proofs.seats.admit.Goals as goal

pub returns-in-Some-clause-admits : goal.returns-in-Some-clause-admits
returns-in-Some-clause-admits g c = let k = c.join.new.self in let s = c.in-Some.seat.now in let n = c.args.number in record {
  after = k;
  now = subst (λ r. OnSome r (c.get_mut.follows.lender k ≡ fin.insert c.args.seats.now n k)) c.in-Some.is (c.get_mut.follows.holds k);
  on = subst (λ o. IsOn o (Some k)) c.in-Some.ensures.value c.join.ensures.on;
  lock = c.join.ensures.on.lock.0 ∙ subst (λ o. IfSome o (λ s. s.pass.lock ≡ c.args.visitor.pass.lock)) (sym c.in-Some.ensures.value) c.requires.lock;
  seen = c.join.ensures.seen;
  known = λ es here there. seat_follows es n s k c.join.ensures.on (subst (λ o. IfSome o (IsSeat es n)) (sym c.in-Some.ensures.value) here);
}
