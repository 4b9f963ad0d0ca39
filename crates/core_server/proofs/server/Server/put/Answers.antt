use Rattle.std.proofs.Common.{◌+◌, ◌∙◌, [], ◌∷◌, ◌++◌, length, Some, refl, ap, sym, subst}
use Rattle.shape_base.specs.declared.registry_event.RegistryEvent.TheVariants as events
use Rattle.shape_base.specs.RegistryHistory as histories
use Rattle.shape_registry.specs.State.{id_in, live_as}
use Rattle.http_edge.specs.declared.error_code.ErrorCode.TheVariants as codes
use Rattle.shape_registry.proofs.Laws.{refusal_by_history}
use Rattle.core_law.specs.Situation.{registry_start}
use Rattle.core_server.specs.Standing.{reader_in}
use Rattle.core_server.specs.Registers.{IsDefinedFor}
use Rattle.core_server.proofs.Registrations.{free_is, limit_allows, number_refused, registered}
use Rattle.core_server.proofs.server.Server.put.Goals as goal

pub returns-in-Ok-clause-put : goal.returns-in-Ok-clause-put
returns-in-Ok-clause-put c = λ o v h d. let s = c.args.self.now in let k = c.in_ok-shape.shape in
    registered o v c.args.ask.now s _ c.in-Ok.number k h (subst (IsDefinedFor o v c.args.ask.now) (sym c.in_ok-shape.ensures.test) d)
    (limit_allows o v c.args.ask.now.identity (free_is (registry_start o) v.registry s.registry.state c.args.ask.now.identity h.registry.kept c.requires.free)
    (sym (refusal_by_history (registry_start o) v.registry s.registry.state h.registry c.args.ask.now.identity) ∙ ap (Rattle.shape_registry.specs.State.refusal_in s.registry.state) (sym c.in_ok-identity.ensures) ∙ c.in-Ok.ensures.accepted))
    (record {
      run = refl;
      limits = refl;
      tables = refl;
      next = c.in-Ok.ensures.state.0 ∙ ap (λ st. st.given + 1) h.registry.kept;
      registry = subst (λ last. histories.Stands (registry_start o) (v.registry ++ events.Registered c.in-Ok.number c.args.ask.now.identity c.args.ask.now.table last ∷ []) c.register.new.self.state) (ap id_in h.registry.kept)
          (subst (λ identity. histories.Stands (registry_start o) (v.registry ++ events.Registered c.in-Ok.number identity c.args.ask.now.table (id_in s.registry.state) ∷ []) c.register.new.self.state) c.in_ok-identity.ensures
          (c.in-Ok.ensures.registered (registry_start o) v.registry h.registry));
      catalog = ap (λ st. st.catalog) c.in-Ok.ensures.state.1;
      kept = c.in-Ok.ensures.kept;
      total = refl;
      stands = c.in_ok-shape.ensures.stands (reader_in k);
      its_limits = c.in_ok-shape.ensures.limits;
    })

pub returns-else-is_memory-clause-refused : goal.returns-else-is_memory-clause-refused
returns-else-is_memory-clause-refused c = λ o v h. let s = c.args.self.now in
    number_refused o v s c.in_ok-identity.identity c.in_ok-shape.shape c.in-Err.error h (ap (live_as s.registry.state) c.in_ok-identity.ensures ∙ c.requires.free)
    (c.in-Err.ensures.refused_by_history (registry_start o) v.registry h.registry) (sym c.is_memory.ensures ∙ c.if-is_memory.false)
    ∙ ap (λ code. Some code) (sym (c.too_many.ensures ∙ ap (λ r. codes.TooManyShapes s.limits.shapes (length r.state.live)) c.in-Err.ensures.unchanged))
