use Rattle.core_server.proofs.Effects.{OthersOn}
use Rattle.core_server.proofs.effect.other_definition.Given as goal

-- no change so far came under another one
abbrev pub invariant-loop-j : goal.invariant-loop-j
invariant-loop-j l = OthersOn l.old l.tx l.j
