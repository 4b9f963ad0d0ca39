use Rattle.std.proofs.Common.{◌≡◌, ◌<◌, ◌∙◌, ap, sym, subst}
use Rattle.std.specs.Prelude.{IfSome, length}
use Rattle.core_law.specs.Situation.{registry_start}
use Rattle.core_server.specs.Registers.{IsRegisterError, definition_refusal}
use Rattle.core_server.specs.Standing.{HasFewColumns}
use Rattle.core_server.proofs.Registrations.{definition_refused, definition_allowed}
use Rattle.core_server.proofs.server.Server.define.Goals as goal

pub catalog-definition-requires : goal.catalog-definition-requires
catalog-definition-requires c = let r = c.requires.situated in subst (λ n. c.args.ask.now.table < n) (ap length r.stands.tables ∙ sym r.stands.catalog.served) c.requires.served

pub from_ask-requires-clause-table : goal.from_ask-requires-clause-table
from_ask-requires-clause-table c = subst (λ a. IfSome a (λ d. d.table ≡ c.args.ask.now.table)) c.catalog-definition.ensures.definition (c.requires.situated.stands.catalog.placed c.args.ask.now.table)

pub from_ask-requires-clause-few : goal.from_ask-requires-clause-few
from_ask-requires-clause-few c = subst (λ a. IfSome a HasFewColumns) c.catalog-definition.ensures.definition (c.requires.situated.stands.catalog.few c.args.ask.now.table)

pub returns-in-Ok-clause-ok : goal.returns-in-Ok-clause-ok
returns-in-Ok-clause-ok c = λ o v h. definition_allowed o v c.args.self.now.tables c.args.ask.now c.catalog-definition.result.now c.in-Ok.def h.tables
    (c.catalog-definition.ensures.by_history (registry_start o) v.registry h.registry) c.in-Ok.ensures.ok c.in-Ok.ensures.knows c.in-Ok.ensures.clause

pub returns-in-Err-clause-refused : goal.returns-in-Err-clause-refused
returns-in-Err-clause-refused c = λ o v h. subst (IsRegisterError (definition_refusal o v c.args.ask.now)) (sym c.refusal_of_definition.ensures)
    (definition_refused o v c.args.self.now.tables c.args.ask.now c.catalog-definition.result.now c.in-Err.error h.tables c.requires.served
    (c.catalog-definition.ensures.by_history (registry_start o) v.registry h.registry) c.in-Err.ensures.err)
