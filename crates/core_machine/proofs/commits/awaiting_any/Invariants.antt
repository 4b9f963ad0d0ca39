use Rattle.std.proofs.Common.{◌≡◌, ℕ, List, take}
use Rattle.core_law.specs.Situation.{Exchange}
use Rattle.core_exchanges.specs.Indexing.{is_among}
use Rattle.core_exchanges.specs.Standing.{Stands, passes_at}
use Rattle.core_machine.specs.Awaiting.{awaits_any}
use Rattle.core_machine.proofs.commits.awaiting_any.Given as goal

-- the places are there of those that await one of the numbers so far
abbrev pub invariant-loop-number : goal.invariant-loop-number
invariant-loop-number l = (xs : List Exchange) → Stands l.exchanges xs → (p : ℕ) → is_among p l.all.keys ≡ passes_at (awaits_any (take l.number-index l.numbers)) xs p
