use Rattle.std.proofs.Common.{◌≡◌, ◌∙◌, ap, sym, subst, map, Some, None, refl}
use Rattle.std.specs.Prelude.{IsSome}
use Rattle.std.specs.Option.{option_map}
use Rattle.shape_registry.specs.contracts.handles.Handles.{the_view}
use Rattle.shape_registry.specs.State.{live_at, with_ready}
use Rattle.shape_registry.specs.Entries.{handle_in, entry_at}
use Rattle.shape_registry.specs.Names.{name_under}
use Rattle.shape_registry.proofs.Linked.{find_number, not_starting}
use Rattle.shape_registry.proofs.Changes.{with_live, made_ready, ready_is, ready_linked}
use Rattle.shape_registry.proofs.handles.Handles.ready.Goals as goal

pub unreachable-requires : goal.unreachable-requires
unreachable-requires c = not_starting c.args.self.now c.args.number
    (subst (λ s. live_at s c.args.number ≡ None) c.self.view_is (find_number c.self.inside.entries.entries c.args.number ∙ ap (option_map (λ x. handle_in (c.args.number, x))) (sym c.in_default.ensures.value)))
    c.requires

pub invariant_of-self : goal.invariant_of-self
unfolding made_ready
invariant_of-self c = let there : entry_at c.self.inside.entries.entries c.args.number ≡ Some c.in-Some.entry.now = sym c.in-Some.ensures.value in
    let holds = c.get_mut.follows.holds (made_ready c.in-Some.entry.now) in (
      ready_linked (name_under c.self.inside.names) (name_under c.make_ready.new.self) c.self.inside.entries.entries (c.get_mut.follows.lender (made_ready c.in-Some.entry.now)).entries c.self.inside.given c.args.number c.in-Some.entry.now (made_ready c.in-Some.entry.now)
          c.self.invariant.0 there refl refl c.make_ready.ensures (holds.3 (subst (λ o. IsSome o) c.in-Some.ensures.value refl)).0 holds.4 holds.1,
      c.self.invariant.1,
    )

pub returns : goal.returns
unfolding made_ready with_live
returns c = subst (λ s. with_live (the_view c.self.inside) (map handle_in (c.get_mut.follows.lender (made_ready c.in-Some.entry.now)).entries) ≡ with_live s (map (with_ready c.args.number) s.live)) c.self.view_is
    (ap (with_live (the_view c.self.inside)) (ap (map handle_in) (c.get_mut.follows.holds (made_ready c.in-Some.entry.now)).0 ∙ ready_is c.args.number c.self.inside.entries.entries c.in-Some.entry.now c.self.invariant.0.ordered (sym c.in-Some.ensures.value)))
