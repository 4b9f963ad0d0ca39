use Rattle.std.proofs.Common.{ap, subst, ◌∙◌}
use Rattle.http_edge.specs.Route.{IsRouted}
use Rattle.core_law.specs.Laws.{get_of}
use Rattle.core_law.specs.Run.{Joined}
use Rattle.sync_core.specs.Reading.{Brings}
use Rattle.sync_core.proofs.Readings.{routed_by, served_first}
use Rattle.sync_core.proofs.reading.first_of.Goals as goal

pub returns-clause-joins : goal.returns-clause-joins
returns-clause-joins c =
    let is = routed_by c.args.tables.now c.get-request.result c.route.result c.route.ensures c.in_ok-first.ensures.kept in
    record {
      routed = c.route.result;
      is = subst (λ request. IsRouted c.args.tables.now request c.route.result) (c.get-request.ensures ∙ ap get_of c.in_ok-first_target.ensures) is;
      reads = ap (λ asked. Brings (Joined c.args.query asked)) c.in_ok-first.ensures.asked;
    }

pub returns-clause-served : goal.returns-clause-served
returns-clause-served c =
    let is = routed_by c.args.tables.now c.get-request.result c.route.result c.route.ensures c.in_ok-first.ensures.kept in
    served_first c.args.tables.now c.get-request.result c.route.result is c.in_ok-first.first c.in_ok-first.ensures.asked
