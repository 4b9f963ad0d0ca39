use Rattle.std.proofs.Common.{[], refl, sym, ap, ◌∙◌, subst}
use Rattle.std.specs.Prelude.{IfSome}
use Rattle.std.specs.FinMap as fin
use Rattle.std.specs.Ordering.{nat_cmp}
use Rattle.std.specs.FinMap.{get-empty}
use Rattle.shape_base.specs.RegistryHistory.{Stands}
use Rattle.shared_shapes.specs.Board.{IsKept}
use Rattle.shared_shapes.proofs.board.Board.new.Goals as goal

pub returns-clause-stands : goal.returns-clause-stands
returns-clause-stands g c = let s = c.in_ok-registry.registry.state in record {
  fixed = refl;
  stands = subst (λ d. Stands (record { run = c.of.result.value; limit = c.args.limits.shapes; catalog = d }) [] s) (sym c.of-3.ensures)
      (subst (λ r. Stands (record { run = r; limit = c.args.limits.shapes; catalog = c.args.definitions }) [] s) (sym c.of.ensures) c.in_ok-registry.ensures.0);
  count = sym (ap (λ s. s.given) c.in_ok-registry.ensures.0.kept);
  same_feed = sym (ap (λ w. w.of) c.of-4.ensures);
  fed_is = c.requires;
  kept = λ n. subst (λ o. IfSome o (IsKept [] n)) (sym (ap (λ m. fin.get m n) c.in_ok-registry.ensures.1 ∙ get-empty nat_cmp n)) tt;
}
