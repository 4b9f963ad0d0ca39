-- What a numbered map ends as, once a reference to one of its values has ended.
use Rattle.std.specs.Prelude.{◌≡◌, ℕ, Option}
use Rattle.std.specs.Option.{OnSome}
use Rattle.std.specs.Ordering.{nat_cmp}
use Rattle.std.specs.Borrow.{Fml, RattleType, MutBor, LendsSo}
use Rattle.std.specs.FinMap.{FinMap}
use Rattle.std.specs.FinMap as fin
use Rattle.shared_shapes.specs.contracts.numbered.Numbered.{the_row}

-- the last value written through r stands under the number, and nothing else changes; at `None` the map stays as it is
abbrev pub lends_at : (V : RattleType) → MutBor (FinMap nat_cmp V.Denot) → ℕ → Option (MutBor V.Denot) → Fml
lends_at V s number r = LendsSo (the_row V) V s r (λ n w. OnSome r (n ≡ fin.insert s.now number w)) (λ n. n ≡ s.now)
