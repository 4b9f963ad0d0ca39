use Rattle.std.proofs.Common.{◌≡◌, ◌++◌, map, length}
use Rattle.form_urlencoded.specs.Form.{parse}
use Rattle.form_urlencoded.specs.Parse.{raw_pairs_left}
use Rattle.http_edge.specs.Parameters.{pairs_of, AreTexts, decoded}
use Rattle.http_edge.proofs.parameters.texts_of.Given as goal

abbrev pub invariant-pairs : goal.invariant-pairs
invariant-pairs l = (parse l.fn.query ≡ pairs_of l.parameters.items ++ map decoded (raw_pairs_left l.pairs)) × AreTexts (pairs_of l.parameters.items)

abbrev pub decreases-pairs : goal.decreases-pairs
decreases-pairs l = length (raw_pairs_left l.pairs)
