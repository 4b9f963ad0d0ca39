use Rattle.std.proofs.Common.{◌≡◌, drop}
use Rattle.http_edge.specs.Parameters.{value_under, pairs_of}
use Rattle.http_edge.proofs.parameters.value_under.Given as goal

abbrev pub invariant-loop-parameter : goal.invariant-loop-parameter
invariant-loop-parameter l = value_under l.fn.name (pairs_of l.fn.parameters) ≡ value_under l.fn.name (pairs_of (drop l.parameter-index l.fn.parameters))
