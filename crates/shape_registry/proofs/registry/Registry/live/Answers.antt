use Rattle.std.proofs.Common.{◌∙◌, ap, length}
use Rattle.std.proofs.lemmas.List.{length-map}
use Rattle.shape_base.specs.RegistryHistory.{live_registrations, live_handle}
use Rattle.shape_registry.proofs.registry.Registry.live.Goals as goal

pub returns-clause-by_history : goal.returns-clause-by_history
returns-clause-by_history g c = λ start es stands. c.live.ensures ∙ ap (λ r. length r.state.live) c.self.view_is ∙ ap (λ s. length s.live) stands.kept ∙ length-map (live_registrations es) (live_handle es)
