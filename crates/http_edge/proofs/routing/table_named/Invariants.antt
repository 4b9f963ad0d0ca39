use Rattle.std.proofs.Common.{◌≡◌, drop}
use Rattle.http_edge.specs.Route.{table_from}
use Rattle.http_edge.proofs.routing.table_named.Given as goal

abbrev pub invariant-loop-place : goal.invariant-loop-place
invariant-loop-place l = table_from (l.fn.ns, l.fn.name) 0 l.fn.tables ≡ table_from (l.fn.ns, l.fn.name) l.place (drop l.place l.fn.tables)
