use Rattle.core_law.specs.Situation.{registry_start}
use Rattle.core_server.proofs.server.Server.lookup.Goals as goal

pub returns-clause-by_situation : goal.returns-clause-by_situation
returns-clause-by_situation c = λ o v h. c.lookup.ensures.by_history (registry_start o) v.registry h.registry
