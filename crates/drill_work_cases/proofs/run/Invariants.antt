use Rattle.std.proofs.Common.{◌≡◌}
use Rattle.drill_work.specs.Rounds.{IsSound}
use Rattle.drill_work_cases.proofs.run.Given as goal

-- as many rounds were run as are counted
abbrev pub invariant-loop : goal.invariant-loop
invariant-loop l = IsSound l.drill × (l.drill.rounds ≡ l.counter)
