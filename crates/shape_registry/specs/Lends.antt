-- What a registry ends as, once a reference to a kept value has ended.
use Rattle.std.specs.Prelude.{◌≡◌, ℕ, Option}
use Rattle.std.specs.Option.{OnSome}
use Rattle.std.specs.Borrow.{Fml, RattleType, MutBor, LendsSo}
use Rattle.std.specs.FinMap as fin
use Rattle.shape_registry.specs.Registry.{WithKept}
use Rattle.shape_registry.specs.contracts.registry.Registry.{the_row}

-- the last value written through r is kept for the number, and nothing else changes; at `None` the registry stays as it is
abbrev pub lends_kept : (K : RattleType) → MutBor (WithKept K.Denot) → ℕ → Option (MutBor K.Denot) → Fml
lends_kept K s number r = LendsSo (the_row K) K s r (λ n w. (n.state ≡ s.now.state) × OnSome r (n.kept ≡ fin.insert s.now.kept number w)) (λ n. n ≡ s.now)
