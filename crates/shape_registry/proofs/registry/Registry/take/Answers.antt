use Rattle.std.proofs.Common.{◌≡◌, ◌<◌, ◌∙◌, [], ◌∷◌, ◌++◌, ap, sym, subst}
use Rattle.std.specs.Prelude.{map}
use Rattle.std.proofs.lemmas.Result.{IfOk-weaker}
use Rattle.shape_base.specs.declared.registry_event.RegistryEvent.TheVariants as events
use Rattle.shape_base.specs.RegistryHistory.{Stands, live_numbers}
use Rattle.shape_registry.specs.State.{lsn_in}
use Rattle.shape_registry.specs.Registry.{ByHistory, Adds}
use Rattle.shape_registry.proofs.Laws.{adds_took, numbers_by_history}
use Rattle.shape_registry.proofs.registry.Registry.take.Goals as goal

pub returns-clause-numbers : goal.returns-clause-numbers
returns-clause-numbers g c = IfOk-weaker c.take.result _ (λ numbers. ByHistory c.args.self.now.state (λ start es. numbers ≡ live_numbers es))
    (λ numbers ok start es stands. ok.0 ∙ ap (λ r. map (λ l. l.number) r.state.live) c.self.view_is ∙ numbers_by_history start es c.args.self.now.state stands) c.take.ensures.ok

pub returns-clause-took : goal.returns-clause-took
returns-clause-took g c = IfOk-weaker c.take.result _ (λ numbers. Adds c.args.self.now.state (events.Took c.args.lsn c.args.xid) c.take.new.self)
    (λ numbers ok start es stands. subst (Stands start (es ++ events.Took c.args.lsn c.args.xid ∷ [])) (sym ok.1)
    (adds_took start es c.self.inside.handles (subst (Stands start es) (sym (ap (λ r. r.state) c.self.view_is)) stands) c.args.lsn c.args.xid
    (subst (λ s. lsn_in s < c.args.lsn) (sym (ap (λ r. r.state) c.self.view_is)) c.requires))) c.take.ensures.ok
