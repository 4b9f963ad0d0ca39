use Rattle.std.proofs.Common.{[], ◌∷◌, ◌++◌, ap, sym, subst}
use Rattle.shape_base.specs.declared.registry_event.RegistryEvent.TheVariants as events
use Rattle.shape_base.specs.RegistryHistory.{Stands}
use Rattle.shape_registry.proofs.Laws.{adds_redefined}
use Rattle.shape_registry.proofs.registry.Registry.redefine.Goals as goal

pub returns-clause-redefined : goal.returns-clause-redefined
returns-clause-redefined g c = λ start es stands. subst (Stands start (es ++ events.Redefined c.args.definition ∷ [])) (sym c.redefine.ensures)
    (adds_redefined start es c.self.inside.handles (subst (Stands start es) (sym (ap (λ r. r.state) c.self.view_is)) stands) c.args.definition)
