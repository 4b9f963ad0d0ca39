use Rattle.std.proofs.Common.{◌≡◌, length, reverse}
use Rattle.httparse.specs.Grammar.{skip_ows}
use Rattle.http_edge.proofs.head_fields.without_trailing.Given as goal

abbrev pub invariant-white : goal.invariant-white
invariant-white l = skip_ows (reverse l.rest) ≡ skip_ows (reverse l.fn.bytes)

abbrev pub decreases-white : goal.decreases-white
decreases-white l = length l.rest
