use Rattle.core_server.proofs.Committing.{HasCome}
use Rattle.core_server.proofs.server.Server.reach_all.Given as goal

-- the commit has reached the numbers so far
abbrev pub invariant-loop-number : goal.invariant-loop-number
invariant-loop-number l = HasCome l.initial.self l.tx l.numbers l.number-index l.self l.told
