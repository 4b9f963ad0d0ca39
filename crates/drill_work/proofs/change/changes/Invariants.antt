use Rattle.std.proofs.Common.{◌≡◌, ◌-◌, ◌+◌, ◌≤◌}
use Rattle.drill_work.specs.Changes.{changes}
use Rattle.drill_work.proofs.Loops.{with_front}
use Rattle.drill_work.proofs.change.changes.Given as goal

-- the changes so far, and those that are left
abbrev pub invariant-loop : goal.invariant-loop
invariant-loop l = (with_front l.statements (changes (l.count - l.counter) l.chance.state l.plain) ≡ changes l.count l.fn.chance.state l.fn.plain) × (l.plain.fresh ≤ l.fn.plain.fresh + l.counter)
