use Rattle.std.proofs.Common.{◌≡◌, ◌++◌, drop, map}
use Rattle.drill_work.specs.Messages.{event_of, message_of}
use Rattle.drill_work.proofs.messages.push_statements.Given as goal

-- the messages so far, and those that are left
abbrev pub invariant-loop-statement : goal.invariant-loop-statement
invariant-loop-statement l = l.events ++ map event_of (map message_of (drop l.statement-index l.statement-items)) ≡ l.fn.events ++ map event_of (map message_of l.statements)
