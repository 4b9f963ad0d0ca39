use Rattle.std.proofs.Common.{◌≡◌, ◌+◌, ◌∙◌, ap, sym, refl, subst, map, Some, None, nat_cmp, arith, false}
use Rattle.std.specs.Map.{remove_entry}
use Rattle.std.specs.BTreeMap.{is_at}
use Rattle.shape_base.specs.declared.registry_event.RegistryEvent.TheVariants as events
use Rattle.std.proofs.lemmas.List.{map-append}
use Rattle.shape_registry.specs.contracts.handles.Handles.{the_view}
use Rattle.shape_registry.specs.State.{live_as, after, id_in}
use Rattle.shape_registry.specs.Entries.{handle_in, AreLinked}
use Rattle.shape_registry.specs.Names.{name_under, Renames}
use Rattle.shape_registry.proofs.Linked.{unnamed}
use Rattle.shape_registry.proofs.Changes.{with_live, put_last, taken_out, push_linked}
use Rattle.shape_registry.proofs.handles.Handles.register.Goals as goal
use Rattle.shape_registry.proofs.handles.Handles.register.Goals.{in-Some-2, in-None-2}

pub invariant_of-self-in-Ok : goal.invariant_of-self-in-Ok
invariant_of-self-in-Ok c = (
  push_linked (name_under c.self.inside.names) (name_under c.insert-2.new.self) c.self.inside.entries.entries c.insert.new.self.entries c.self.inside.given (c.self.inside.given + 1)
      (record { identity = c.args.identity; table = c.args.table; before = c.self.inside.taken; is_ready = false }) c.self.invariant.0 refl
      (unnamed (name_under c.self.inside.names) c.self.inside.entries.entries c.self.inside.given c.self.invariant.0 c.args.identity (subst (λ s. live_as s c.args.identity ≡ None) (sym c.self.view_is) c.requires.free))
      (subst (λ i. Renames c.self.inside.names c.insert-2.new.self i (Some (record { number = c.self.inside.given + 1; is_ready = false }))) c.in_ok-twin.ensures c.in-Ok.ensures.ok)
      c.in_ok-_none.ensures.updates.0 c.in_ok-_none.ensures.ordered c.in_ok-_none.ensures.entries,
  c.self.invariant.1,
)

pub returns-in-Ok-clause-ok : goal.returns-in-Ok-clause-ok
returns-in-Ok-clause-ok c = (
  ap (λ s. s.given + 1) c.self.view_is,
  subst (λ s. record (the_view c.self.inside) { live = map handle_in c.insert.new.self.entries; given = c.self.inside.given + 1 } ≡ after s (events.Registered (c.self.inside.given + 1) c.args.identity c.args.table (id_in s))) c.self.view_is
      (ap (λ ls. record (the_view c.self.inside) { live = ls; given = c.self.inside.given + 1 })
      (ap (map handle_in) (c.in_ok-_none.ensures.entries ∙ put_last c.self.inside.entries.entries c.self.inside.given (c.self.inside.given + 1) (record { identity = c.args.identity; table = c.args.table; before = c.self.inside.taken; is_ready = false }) c.self.invariant.0.below (omega arith))
      ∙ map-append handle_in c.self.inside.entries.entries _)),
)

pub invariant_of-self-in-Err : goal.invariant_of-self-in-Err
invariant_of-self-in-Err c = let entries : c.remove-entry.new.self.entries ≡ c.self.inside.entries.entries
    = c.remove-entry.ensures.entries ∙ ap (remove_entry (is_at (nat_cmp (c.self.inside.given + 1)))) (c.in_ok-_none.ensures.entries ∙ put_last c.self.inside.entries.entries c.self.inside.given (c.self.inside.given + 1) (record { identity = c.args.identity; table = c.args.table; before = c.self.inside.taken; is_ready = false }) c.self.invariant.0.below (omega arith))
    ∙ taken_out c.self.inside.entries.entries c.self.inside.given (c.self.inside.given + 1) (record { identity = c.args.identity; table = c.args.table; before = c.self.inside.taken; is_ready = false }) c.self.invariant.0.below (omega arith) in
    (subst (λ es. AreLinked (name_under c.insert-2.new.self) es c.self.inside.given) (sym entries) (subst (λ names. AreLinked (name_under names) c.self.inside.entries.entries c.self.inside.given) (sym c.in-Err.ensures.err) c.self.invariant.0), c.self.invariant.1)

pub returns-clause-err : goal.returns-clause-err
unfolding with_live
returns-clause-err c = let entries : c.remove-entry.new.self.entries ≡ c.self.inside.entries.entries
    = c.remove-entry.ensures.entries ∙ ap (remove_entry (is_at (nat_cmp (c.self.inside.given + 1)))) (c.in_ok-_none.ensures.entries ∙ put_last c.self.inside.entries.entries c.self.inside.given (c.self.inside.given + 1) (record { identity = c.args.identity; table = c.args.table; before = c.self.inside.taken; is_ready = false }) c.self.invariant.0.below (omega arith))
    ∙ taken_out c.self.inside.entries.entries c.self.inside.given (c.self.inside.given + 1) (record { identity = c.args.identity; table = c.args.table; before = c.self.inside.taken; is_ready = false }) c.self.invariant.0.below (omega arith) in
    let same : with_live (the_view c.self.inside) (map handle_in c.remove-entry.new.self.entries) ≡ c.args.self.now = ap (λ es. with_live (the_view c.self.inside) (map handle_in es)) entries ∙ c.self.view_is in
    elim c.match-entry.branch [ in-Some-2 w ↦ w.self-is ∙ same | in-None-2 w ↦ w.self-is ∙ same ]
