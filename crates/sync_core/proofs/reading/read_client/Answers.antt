use Rattle.std.proofs.Common.{inr}
use Rattle.std.proofs.lemmas.Result.{IfOk-weaker}
use Rattle.sync_core.proofs.reading.read_client.Goals as goal

pub returns-in-Ok-clause-reads : goal.returns-in-Ok-clause-reads
returns-in-Ok-clause-reads c = IfOk-weaker c.first_of.result _ _ (λ joining j. inr (record { query = c.in-Ok.query; form = c.in-Ok.ensures.read; routed = j.routed; is = j.is; reads = j.reads })) c.first_of.ensures.joins
