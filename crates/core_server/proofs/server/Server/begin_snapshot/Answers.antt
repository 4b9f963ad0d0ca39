use Rattle.std.proofs.Common.{sym}
use Rattle.core_law.specs.Situation.{registry_start}
use Rattle.core_server.proofs.Rows.{begun, begin_refused}
use Rattle.core_server.proofs.server.Server.begin_snapshot.Goals as goal

pub returns-in-Ok-clause-begun : goal.returns-in-Ok-clause-begun
returns-in-Ok-clause-begun c = λ o v x h at is. begun o v c.args.self.now c.args.number x c.in-Some.shape.now c.args.last c.args.head.now h (sym (c.in-Some.ensures.by_history (registry_start o) v.registry h.registry)) (sym c.in-Some.ensures.kept) at is
    c.in-Ok.snap c.test.result.now c.test.ensures c.in-Ok.ensures.started c.in-Ok.ensures.taken c.in-Ok.ensures.test c.in-Ok.ensures.limits c.in-Ok.ensures.least

pub returns-in-Err-clause-refused : goal.returns-in-Err-clause-refused
returns-in-Err-clause-refused c = λ o v x h at is. begin_refused o v c.args.self.now c.args.number x c.in-Some.shape.now c.args.last c.args.head.now h (sym (c.in-Some.ensures.by_history (registry_start o) v.registry h.registry)) (sym c.in-Some.ensures.kept) at is
    c.in-Err.error c.test.result.now c.test.ensures c.in-Err.ensures.refused
