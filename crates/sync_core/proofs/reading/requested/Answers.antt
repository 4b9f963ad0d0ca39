use Rattle.std.proofs.Common.{inr, ap, arith, Some, Ok}
use Rattle.core_law.specs.Run.{RequestCame}
use Rattle.sync_core.specs.Reading.{Brings}
use Rattle.sync_core.proofs.Readings.{routed_by, served_ask, last_head}
use Rattle.sync_core.proofs.reading.requested.Goals as goal

pub returns-clause-reads : goal.returns-clause-reads
returns-clause-reads c =
    let is = routed_by c.args.tables.now c.args.request c.route.result c.route.ensures c.in_ok-asked.ensures.kept in
    let last = c.if-request-bytes.false in
    inr (
      last_head c.args.bytes.now c.args.request c.requires.asks (grind (arith, last)),
      record {
        answer = Ok c.args.request;
        is = c.requires.asks;
        reads = record {
          routed = c.route.result;
          is = is;
          reads = ap (λ asked. Brings (RequestCame (Some c.args.request.target) asked c.args.request.close)) c.in_ok-asked.ensures.asked;
        };
      },
    )

pub returns-clause-served : goal.returns-clause-served
returns-clause-served c =
    let is = routed_by c.args.tables.now c.args.request c.route.result c.route.ensures c.in_ok-asked.ensures.kept in
    served_ask c.args.tables.now c.args.request c.route.result is c.in_ok-asked.asked c.in_ok-asked.ensures.asked
