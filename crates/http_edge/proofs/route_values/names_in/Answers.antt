use Rattle.std.proofs.Common.{option_map, ap}
use Rattle.http_edge.specs.ReplySeen.{seen}
use Rattle.http_edge.proofs.NameLaws.{left_fewer}
use Rattle.http_edge.proofs.route_values.names_in.Goals as goal

pub names-smaller : goal.names-smaller
names-smaller c = left_fewer (option_map seen c.names.rest) (option_map seen c.first_name.result.1) c.in-Some.names.now (ap (option_map seen) c.in-Some.is) c.first_name.ensures.shorter
