use Rattle.std.proofs.Common.{◌∙◌, [], ◌∷◌, ◌++◌, ap, sym, subst}
use Rattle.std.proofs.lemmas.Result.{IfOk-weaker}
use Rattle.shape_base.specs.declared.registry_event.RegistryEvent.TheVariants as events
use Rattle.shape_base.specs.RegistryHistory.{Stands}
use Rattle.shape_registry.specs.State.{id_in, refusal_in}
use Rattle.shape_registry.specs.Registry.{Adds, IsRefused}
use Rattle.shape_registry.proofs.Laws.{refusal_by_history, adds_registered}
use Rattle.shape_registry.proofs.registry.Registry.register.Goals as goal

pub returns-in-Some-clause-refused_by_history : goal.returns-in-Some-clause-refused_by_history
returns-in-Some-clause-refused_by_history g c = λ start es stands. subst (λ o. IsRefused o c.args.kept c.refused.result)
    (c.in-Some.ensures ∙ ap (λ r. refusal_in r.state c.args.identity) c.self.view_is ∙ refusal_by_history start es c.args.self.now.state stands c.args.identity) c.refused.ensures

pub returns-clause-registered : goal.returns-clause-registered
returns-clause-registered g c = IfOk-weaker c.put.result _ (λ number. Adds c.args.self.now.state (events.Registered number c.args.identity c.args.table (id_in c.args.self.now.state)) c.put.new.self.state)
    (λ number ok start es stands. subst (Stands start (es ++ events.Registered number c.args.identity c.args.table (id_in c.args.self.now.state) ∷ [])) (sym ok.1)
    (adds_registered start es c.args.self.now.state stands number c.args.identity c.args.table ok.0 (sym (c.refusal.ensures ∙ ap (λ r. refusal_in r.state c.args.identity) c.self.view_is) ∙ c.in_default.is))) c.put.ensures.state
