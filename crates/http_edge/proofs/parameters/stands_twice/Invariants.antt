use Rattle.std.proofs.Common.{◌≡◌, ◌||◌, ◌&&◌, drop}
use Rattle.http_edge.specs.Parameters.{stands_in, stands_twice, pairs_of}
use Rattle.http_edge.proofs.parameters.stands_twice.Given as goal

abbrev pub invariant-loop-parameter : goal.invariant-loop-parameter
invariant-loop-parameter l =
    stands_twice l.fn.name (pairs_of l.fn.parameters) ≡ ((l.once && stands_in l.fn.name (pairs_of (drop l.parameter-index l.fn.parameters))) || stands_twice l.fn.name (pairs_of (drop l.parameter-index l.fn.parameters)))
