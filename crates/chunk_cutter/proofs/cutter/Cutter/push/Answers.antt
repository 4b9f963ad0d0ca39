use Rattle.std.proofs.Common.{sym, subst, refl, arith}
use Rattle.chunk_cutter.specs.Cut.{Cut, HasCut}
use Rattle.chunk_cutter.proofs.Cutting.{closed_next, open_next}
use Rattle.chunk_cutter.proofs.cutter.Cutter.push.Goals as goal

pub returns-then-sum-self-clause-pushed : goal.returns-then-sum-self-clause-pushed
returns-then-sum-self-clause-pushed c sizes has =
    closed_next _ _ sizes c.args.size (subst (λ (cut : Cut). HasCut cut sizes) (sym c.self.view_is) has) (omega (arith, c.if-sum-self.true, c.saturating_add-sum.ensures)) refl (rw c.unwrap.ensures at c.push.ensures.items) refl refl

pub returns-else-sum-self-clause-pushed : goal.returns-else-sum-self-clause-pushed
returns-else-sum-self-clause-pushed c sizes has =
    open_next _ _ sizes c.args.size (subst (λ (cut : Cut). HasCut cut sizes) (sym c.self.view_is) has) (omega (arith, c.if-sum-self.false, c.saturating_add-sum.ensures)) refl refl (omega (arith, c.if-sum-self.false, c.saturating_add-sum.ensures)) refl
