use Rattle.std.proofs.Common.{◌∙◌, ap}
use Rattle.shape_registry.specs.State.{found_in}
use Rattle.shape_registry.proofs.Laws.{found_by_history}
use Rattle.shape_registry.proofs.registry.Registry.lookup.Goals as goal

pub returns-clause-by_history : goal.returns-clause-by_history
returns-clause-by_history g c = λ start es stands. c.found.ensures ∙ ap (λ r. found_in r.state c.args.ask.now.identity c.args.ask.now.named) c.self.view_is ∙ found_by_history start es c.args.self.now.state stands c.args.ask.now.identity c.args.ask.now.named
