use Rattle.std.proofs.Common.{◌∙◌, ap}
use Rattle.shape_registry.specs.State.{standing_in}
use Rattle.shape_registry.proofs.Laws.{standing_by_history}
use Rattle.shape_registry.proofs.registry.Registry.standing.Goals as goal

pub returns-clause-by_history : goal.returns-clause-by_history
returns-clause-by_history g c = λ start es stands. c.standing.ensures ∙ ap (λ r. standing_in r.state c.args.number) c.self.view_is ∙ standing_by_history start es c.args.self.now.state stands c.args.number
