use Rattle.std.proofs.Common.{◌∙◌, ap}
use Rattle.std.specs.Option.{option_map}
use Rattle.shape_registry.specs.State.{live_as}
use Rattle.shape_registry.specs.Entries.{live_of}
use Rattle.shape_registry.specs.Names.{name_under}
use Rattle.shape_registry.proofs.Linked.{found_under}
use Rattle.shape_registry.proofs.handles.Handles.under.Goals as goal

pub returns : goal.returns
returns c = c.get.ensures ∙ found_under (name_under c.self.inside.names) c.self.inside.entries.entries c.self.inside.given c.self.invariant.0 c.args.identity.now ∙ ap (λ s. option_map live_of (live_as s c.args.identity.now)) c.self.view_is
