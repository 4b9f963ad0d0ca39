use Rattle.std.proofs.Common.{◌∙◌, [], ◌∷◌, ◌++◌, ap, sym, subst}
use Rattle.std.specs.Prelude.{is_some}
use Rattle.std.specs.FinMap as fin
use Rattle.shape_base.specs.declared.registry_event.RegistryEvent.TheVariants as events
use Rattle.shape_base.specs.RegistryHistory.{Stands}
use Rattle.shape_registry.specs.State.{live_at, after}
use Rattle.shape_registry.proofs.KeptValues.{get_in, remove_in}
use Rattle.shape_registry.proofs.States.{keeps_removed}
use Rattle.shape_registry.proofs.Laws.{live_by_history, adds_removed}
use Rattle.shape_registry.proofs.registry.Registry.remove.Goals as goal

pub returns-in-None-clause-back : goal.returns-in-None-clause-back
returns-in-None-clause-back g c = c.in-None.ensures.value ∙ sym (get_in c.self.inside.values c.args.number) ∙ ap (λ r. fin.get r.kept c.args.number) c.self.view_is

pub returns-in-None-clause-by_history : goal.returns-in-None-clause-by_history
returns-in-None-clause-by_history g c = λ start es stands. ap is_some c.in-None.ensures.value ∙ c.self.invariant c.args.number ∙ ap (λ r. is_some (live_at r.state c.args.number)) c.self.view_is
    ∙ live_by_history start es c.args.self.now.state stands c.args.number

pub returns-in-None-clause-kept : goal.returns-in-None-clause-kept
returns-in-None-clause-kept g c = remove_in c.self.inside.values c.remove.new.self c.args.number c.in-None.ensures.updates.0 ∙ ap (λ r. fin.remove r.kept c.args.number) c.self.view_is

pub invariant_of-self : goal.invariant_of-self
invariant_of-self g c = λ number. keeps_removed c.self.inside.values c.remove.new.self c.self.inside.handles c.self.invariant c.args.number c.args.cause c.in-Some.ensures.updates.0 number
    ∙ sym (ap (λ s. is_some (live_at s number)) (c.remove-in-Some.ensures c.args.cause))

pub returns-in-Some-clause-back : goal.returns-in-Some-clause-back
returns-in-Some-clause-back g c = c.in-Some.ensures.value ∙ sym (get_in c.self.inside.values c.args.number) ∙ ap (λ r. fin.get r.kept c.args.number) c.self.view_is

pub returns-in-Some-clause-by_history : goal.returns-in-Some-clause-by_history
returns-in-Some-clause-by_history g c = λ start es stands. ap is_some c.in-Some.ensures.value ∙ c.self.invariant c.args.number ∙ ap (λ r. is_some (live_at r.state c.args.number)) c.self.view_is
    ∙ live_by_history start es c.args.self.now.state stands c.args.number

pub returns-in-Some-clause-kept : goal.returns-in-Some-clause-kept
returns-in-Some-clause-kept g c = remove_in c.self.inside.values c.remove.new.self c.args.number c.in-Some.ensures.updates.0 ∙ ap (λ r. fin.remove r.kept c.args.number) c.self.view_is

pub returns-in-Some-clause-state : goal.returns-in-Some-clause-state
returns-in-Some-clause-state g c = c.remove-in-Some.ensures c.args.cause ∙ ap (λ r. after r.state (events.Removed c.args.number c.args.cause)) c.self.view_is

pub returns-in-Some-clause-removed : goal.returns-in-Some-clause-removed
returns-in-Some-clause-removed g c = λ start es stands. subst (Stands start (es ++ events.Removed c.args.number c.args.cause ∷ [])) (sym (c.remove-in-Some.ensures c.args.cause))
    (adds_removed start es c.self.inside.handles (subst (Stands start es) (sym (ap (λ r. r.state) c.self.view_is)) stands) c.args.number c.args.cause
    (sym (c.self.invariant c.args.number) ∙ ap is_some (sym c.in-Some.ensures.value)))
