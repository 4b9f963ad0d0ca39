use Rattle.std.proofs.Common.{◌≤◌}
use Rattle.where_parser.specs.declared.expr.Exprs.{size-Exprs}
use Rattle.where_parser.proofs.+tree.Given as goal

abbrev pub invariant-expr::Exprs::drop-loop-self : goal.invariant-expr::Exprs::drop-loop-self
invariant-expr::Exprs::drop-loop-self l = size-Exprs l.self ≤ size-Exprs l.initial.self
