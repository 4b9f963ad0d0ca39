use Rattle.std.proofs.Common.{◌≡◌, subst}
use Rattle.std.specs.Option.{option_map}
use Rattle.shape_registry.specs.State.{live_at}
use Rattle.shape_registry.specs.Entries.{handle_in}
use Rattle.shape_registry.proofs.Linked.{at_answer}
use Rattle.shape_registry.proofs.handles.Handles.at.Goals as goal

pub returns : goal.returns
returns c = subst (λ s. option_map (λ e. handle_in (c.args.number, e.now)) c.get.result ≡ live_at s c.args.number) c.self.view_is (at_answer c.self.inside.entries.entries c.args.number c.get.result c.get.ensures.value)
