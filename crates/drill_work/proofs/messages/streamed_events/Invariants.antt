use Rattle.std.proofs.Common.{◌≡◌, ◌++◌, drop}
use Rattle.drill_work.specs.Messages.{streamed_events}
use Rattle.drill_work.proofs.messages.streamed_events.Given as goal

-- the events so far, and those of the commits that are left
abbrev pub invariant-loop-commit : goal.invariant-loop-commit
invariant-loop-commit l = l.events ++ streamed_events (drop l.commit-index l.commit-items) ≡ streamed_events l.commits
