use Rattle.std.proofs.Common.{take}
use Rattle.std.specs.List.{AllByRecursion}
use Rattle.script_check.specs.Premise.{IsHonestClaim}
use Rattle.script_check.proofs.premise.first_dishonest.Given as goal

-- each snapshot so far is honest
abbrev pub invariant-loop-claim : goal.invariant-loop-claim
invariant-loop-claim l = AllByRecursion (IsHonestClaim l.history) (take l.claim-index l.claim-items)
