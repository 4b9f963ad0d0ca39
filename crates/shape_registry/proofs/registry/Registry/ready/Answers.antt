use Rattle.std.proofs.Common.{◌≡◌, ◌∙◌, [], ◌∷◌, ◌++◌, ap, sym, subst}
use Rattle.std.specs.Prelude.{is_some}
use Rattle.shape_base.specs.declared.registry_event.RegistryEvent.TheVariants as events
use Rattle.shape_base.specs.RegistryHistory.{Stands}
use Rattle.shape_registry.specs.declared.standing.Standing.TheVariants as standings
use Rattle.shape_registry.specs.State.{live_at, standing_in}
use Rattle.shape_registry.proofs.States.{live_after_ready}
use Rattle.shape_registry.proofs.Laws.{adds_ready}
use Rattle.shape_registry.proofs.registry.Registry.ready.Goals as goal

pub invariant_of-self : goal.invariant_of-self
invariant_of-self g c = λ number. c.self.invariant number ∙ sym (live_after_ready c.self.inside.handles c.args.number number) ∙ sym (ap (λ s. is_some (live_at s number)) c.ready.ensures)

pub returns-clause-ready : goal.returns-clause-ready
returns-clause-ready g c = λ start es stands. subst (Stands start (es ++ events.Ready c.args.number ∷ [])) (sym c.ready.ensures)
    (adds_ready start es c.self.inside.handles (subst (Stands start es) (sym (ap (λ r. r.state) c.self.view_is)) stands) c.args.number
    (subst (λ s. standing_in s c.args.number ≡ standings.Starting) (sym (ap (λ r. r.state) c.self.view_is)) c.requires))
