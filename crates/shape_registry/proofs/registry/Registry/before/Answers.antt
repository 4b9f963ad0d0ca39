use Rattle.std.proofs.Common.{◌∙◌, ap}
use Rattle.std.specs.Option.{option_map}
use Rattle.shape_registry.specs.State.{live_at}
use Rattle.shape_registry.proofs.Laws.{before_by_history}
use Rattle.shape_registry.proofs.registry.Registry.before.Goals as goal

pub returns-clause-by_history : goal.returns-clause-by_history
returns-clause-by_history g c = λ start es stands. c.before-2.ensures ∙ ap (λ r. option_map (λ l. l.before) (live_at r.state c.args.number)) c.self.view_is ∙ before_by_history start es c.args.self.now.state stands c.args.number
