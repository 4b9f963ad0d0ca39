use Rattle.std.proofs.Common.{refl}
use Rattle.http_edge.proofs.NameLaws.{cut_here, cut_none}
use Rattle.http_edge.proofs.route_values.first_name.Goals as goal

pub returns-in-Some : goal.returns-in-Some
returns-in-Some c = cut_here c.args.names.now c.in-Some.name.now c.in-Some.rest.now c.in-Some.ensures.found c.requires

pub returns-in-None : goal.returns-in-None
returns-in-None c = cut_none c.args.names.now (c.in-None.ensures.absent refl) c.requires
