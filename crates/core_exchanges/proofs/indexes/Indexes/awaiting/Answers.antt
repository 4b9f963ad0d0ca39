use Rattle.std.proofs.Common.{List, ℕ, sym, subst}
use Rattle.std.specs.Ordering.{nat_cmp}
use Rattle.std.specs.List.Sorted.{IsStrictlySortedBy}
use Rattle.core_exchanges.proofs.indexes.Indexes.awaiting.Goals as goal

pub returns-in-None-clause-rising : goal.returns-in-None-clause-rising
unfolding IsStrictlySortedBy
returns-in-None-clause-rising c = subst (λ (ks : List ℕ). IsStrictlySortedBy nat_cmp ks) (sym {A = List ℕ} c.new.ensures.items) tt
