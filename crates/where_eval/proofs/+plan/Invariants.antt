use Rattle.std.proofs.Common.{◌≤◌}
use Rattle.where_eval.specs.declared.plan.Plans.{size-Plans}
use Rattle.where_eval.proofs.+plan.Given as goal

abbrev pub invariant-plan::Plans::drop-loop-self : goal.invariant-plan::Plans::drop-loop-self
invariant-plan::Plans::drop-loop-self l = size-Plans l.self ≤ size-Plans l.initial.self
