use Rattle.std.proofs.Common.{◌≡◌, ◌-◌, ◌++◌}
use Rattle.drill_work.specs.Rounds.{IsSound, begun, turns}
use Rattle.drill_work.proofs.drill.turns.Given as goal

-- the rounds so far, and those that are left
abbrev pub invariant-loop : goal.invariant-loop
invariant-loop l = (l.all ++ turns (2000 - l.counter) l.drill ≡ turns 2000 (begun l.number)) × (IsSound l.drill × (l.drill.rounds ≡ l.counter))
