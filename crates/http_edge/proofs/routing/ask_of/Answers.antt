use Rattle.std.proofs.Common.{option_map, codes}
use Rattle.http_edge.specs.ReplySeen.{seen}
use Rattle.http_edge.specs.Parameters.{pairs_of}
use Rattle.http_edge.proofs.RouteLaws.{value_utf8}
use Rattle.http_edge.proofs.routing.ask_of.Goals as goal

pub columns_in-requires : goal.columns_in-requires
columns_in-requires c = value_utf8 (codes "columns") (pairs_of c.args.parameters.now) (option_map seen c.value_under.result) c.value_under.ensures c.requires
