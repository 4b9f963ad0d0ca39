use Rattle.std.proofs.Common.{◌∙◌, sym, ap}
use Rattle.core_law.specs.Situation.{registry_start}
use Rattle.core_server.proofs.Liveness.{starting_by, starting_is}
use Rattle.core_server.proofs.server.Server.is_starting.Goals as goal

pub returns-in-Starting : goal.returns-in-Starting
returns-in-Starting c o v h = ap starting_by (sym c.in-Starting.is ∙ c.standing.ensures.by_history (registry_start o) v.registry h.registry) ∙ starting_is v.registry c.args.number

pub returns-in-Ready : goal.returns-in-Ready
returns-in-Ready c o v h = ap starting_by (sym c.in-Ready.is ∙ c.standing.ensures.by_history (registry_start o) v.registry h.registry) ∙ starting_is v.registry c.args.number

pub returns-in-NotLive : goal.returns-in-NotLive
returns-in-NotLive c o v h = ap starting_by (sym c.in-NotLive.is ∙ c.standing.ensures.by_history (registry_start o) v.registry h.registry) ∙ starting_is v.registry c.args.number
