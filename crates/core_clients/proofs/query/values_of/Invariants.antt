use Rattle.form_urlencoded.specs.Parse.{raw_pairs_left}
use Rattle.core_clients.proofs.QueryLaws.{ReadSoFar}
use Rattle.core_clients.proofs.query.values_of.Given as goal

abbrev pub invariant-pairs : goal.invariant-pairs
invariant-pairs l = ReadSoFar l.fn.form (raw_pairs_left l.pairs) l.values
