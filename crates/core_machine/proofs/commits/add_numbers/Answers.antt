use Rattle.std.proofs.Common.{List, ℕ, Ok, subst}
use Rattle.std.specs.Ordering.{nat_cmp}
use Rattle.std.specs.BTreeSet.{InsertsAll}
use Rattle.std.proofs.lemmas.Iterator.{YieldsList-from_slice}
use Rattle.std.proofs.lemmas.Iterator.Adapters.{fact_from_extend}
use Rattle.core_machine.proofs.Committing.{united}
use Rattle.core_machine.proofs.commits.add_numbers.Goals as goal

pub returns : goal.returns
returns c = fact_from_extend {E = Unit {0}} (λ y. y.now) (Ok c.in_ok-extend.field-0) c.in_ok-extend.ensures.ran (λ it b. YieldsList-from_slice _ b.0)
    (λ xs e h. united c.args.told.now c.extend.new.self c.args.numbers.now (subst (λ (ys : List ℕ). InsertsAll nat_cmp c.args.told.now ys c.extend.new.self) e h).0)
