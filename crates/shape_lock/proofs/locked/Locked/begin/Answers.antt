use Rattle.std.proofs.Common.{refl, sym, ap}
use Rattle.shape_lock.proofs.Holding.{start_is}
use Rattle.shape_lock.proofs.locked.Locked.begin.Goals as goal

pub returns-clause-stands : goal.returns-clause-stands
returns-clause-stands g c = record {
  about = refl;
  stands = c.in_ok-shape.ensures.stands _;
  same_feed = sym (ap (λ w. w.of) c.of.ensures);
  same_seal = sym (ap (λ w. w.of) c.of-2.ensures);
  fed_is = c.requires.0;
  sealed_is = c.requires.1;
}

pub returns-clause-about : goal.returns-clause-about
returns-clause-about g c = start_is _ _ _ _ _ _ _ _ c.in_ok-shape.ensures.test c.in_ok-shape.ensures.limits c.of.ensures c.of-2.ensures
