use Rattle.std.proofs.Common.{◌≡◌, ◌+◌, ◌∙◌, ap, subst, None, arith}
use Rattle.std.specs.Option.{option_map}
use Rattle.shape_registry.specs.State.{live_at}
use Rattle.shape_registry.specs.Entries.{handle_in}
use Rattle.shape_registry.proofs.Linked.{find_number}
use Rattle.shape_registry.proofs.Changes.{none_past}
use Rattle.shape_registry.proofs.handles.Handles.next.Goals as goal

pub returns-clause-fresh : goal.returns-clause-fresh
returns-clause-fresh c = subst (λ s. live_at s (c.self.inside.given + 1) ≡ None) c.self.view_is
    (find_number c.self.inside.entries.entries (c.self.inside.given + 1)
    ∙ ap (option_map (λ x. handle_in (c.self.inside.given + 1, x))) (none_past c.self.inside.entries.entries c.self.inside.given (c.self.inside.given + 1) c.self.invariant.0.below (omega arith)))
