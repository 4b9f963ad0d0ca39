use Rattle.std.proofs.Common.{option_map, codes, inr}
use Rattle.http_edge.specs.ReplySeen.{seen}
use Rattle.http_edge.specs.Parameters.{pairs_of}
use Rattle.http_edge.proofs.RouteLaws.{value_utf8, asks, is_ask, clause_read}
use Rattle.http_edge.proofs.routing.asked.Goals as goal

pub clause_in-requires : goal.clause_in-requires
clause_in-requires c = value_utf8 (codes "where") (pairs_of c.args.parameters.now) (option_map seen c.value_under.result) c.value_under.ensures c.requires.texts

pub returns-in-Ok-ask_of : goal.returns-in-Ok-ask_of
returns-in-Ok-ask_of c =
    let pairs = pairs_of c.args.parameters.now in
    let clause = clause_read pairs (option_map seen c.value_under.result) c.in-Ok-clause_in.clause c.value_under.ensures c.in-Ok-clause_in.ensures.read c.in-Ok-clause_in.ensures.good in
    inr (asks c.args.tables.now pairs c.in-Ok.found.0 c.in-Ok.found.1.now c.in-Ok-clause_in.clause c.in-Ok-place_in.offset c.in-Ok-ask_of.ask c.in-Ok.ensures.read clause.0 clause.1 c.in-Ok-place_in.ensures.read c.in-Ok-place_in.ensures.good
    (is_ask c.args.tables.now pairs c.in-Ok.found.0 c.in-Ok.found.1.now c.in-Ok-clause_in.clause c.in-Ok-place_in.offset c.in-Ok-ask_of.ask c.in-Ok.ensures.read clause.0 c.in-Ok-place_in.ensures.read c.in-Ok-ask_of.ensures.rest c.in-Ok-ask_of.ensures.given c.in-Ok-ask_of.ensures.told))
