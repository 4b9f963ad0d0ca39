use Rattle.std.proofs.Common.{◌≡◌, ◌∙◌, ap, sym, subst, map, not, ◌==◌}
use Rattle.std.specs.Prelude.{filter}
use Rattle.shape_registry.specs.contracts.handles.Handles.{the_view}
use Rattle.shape_registry.specs.Entries.{handle_in, AreLinked}
use Rattle.shape_registry.specs.Names.{name_under}
use Rattle.shape_registry.proofs.Changes.{with_live, removed_is, removed_linked}
use Rattle.shape_registry.proofs.handles.Handles.remove.Goals as goal

pub invariant_of-self : goal.invariant_of-self
invariant_of-self c = (subst (λ es. AreLinked (name_under c.self.inside.names) es c.self.inside.given) (sym c.in_default.ensures.unchanged) c.self.invariant.0, c.self.invariant.1)

pub invariant_of-self-2 : goal.invariant_of-self-2
invariant_of-self-2 c = (
  removed_linked (name_under c.self.inside.names) (name_under c.remove-2.new.self) c.self.inside.entries.entries c.remove.new.self.entries c.self.inside.given c.args.number c.in-Some.entry
      c.self.invariant.0 (sym c.in-Some.ensures.value) c.remove-2.ensures c.in-Some.ensures.updates.0 c.in-Some.ensures.ordered c.in-Some.ensures.entries,
  c.self.invariant.1,
)

pub returns-in_default : goal.returns-in_default
unfolding with_live
returns-in_default c = λ cause. subst (λ s. with_live (the_view c.self.inside) (map handle_in c.remove.new.self.entries) ≡ with_live s (filter (λ l. not (c.args.number == l.number)) s.live)) c.self.view_is
    (ap (with_live (the_view c.self.inside)) (ap (map handle_in) c.remove.ensures.entries ∙ removed_is c.args.number c.self.inside.entries.entries c.self.invariant.0.ordered))

pub returns : goal.returns
unfolding with_live
returns c = λ cause. subst (λ s. with_live (the_view c.self.inside) (map handle_in c.remove.new.self.entries) ≡ with_live s (filter (λ l. not (c.args.number == l.number)) s.live)) c.self.view_is
    (ap (with_live (the_view c.self.inside)) (ap (map handle_in) c.in-Some.ensures.entries ∙ removed_is c.args.number c.self.inside.entries.entries c.self.invariant.0.ordered))
