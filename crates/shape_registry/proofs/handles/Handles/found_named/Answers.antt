use Rattle.std.proofs.Common.{◌∙◌, ap, sym, refl}
use Rattle.shape_registry.specs.contracts.handles.Handles.{the_view}
use Rattle.shape_registry.specs.State.{live_at, found_named}
use Rattle.shape_registry.specs.Names.{name_under, found_handle}
use Rattle.shape_registry.proofs.Naming.{found_by_name}
use Rattle.shape_registry.proofs.handles.Handles.found_named.Goals as goal

pub returns : goal.returns
returns c = c.found_handle.ensures ∙ ap (found_handle c.self.inside.run c.args.handle.now) c.get.ensures
    ∙ sym (found_by_name (the_view c.self.inside) (name_under c.self.inside.names) c.self.inside.entries.entries c.args.identity.now c.args.handle.now c.self.inside.given c.self.invariant.0 refl)
    ∙ ap (λ s. found_named s c.args.identity.now c.args.handle.now (live_at s c.args.handle.now.number)) c.self.view_is
