use Rattle.std.proofs.Common.{◌∙◌, sym}
use Rattle.core_server.proofs.Reaching.{some_back, catalog_back}
use Rattle.core_server.proofs.commits.remove_from.Goals as goal

pub returns-clause-removed : goal.returns-clause-removed
returns-clause-removed g c = λ start es stands live. some_back c.remove-gone.result (c.remove-gone.ensures.by_history start es stands ∙ live) c.remove-gone.ensures.removed start es stands

pub returns-clause-catalog : goal.returns-clause-catalog
returns-clause-catalog g c = catalog_back c.remove-gone.result c.args.registry.now.state c.remove-gone.new.self.state c.args.number c.args.cause c.remove-gone.ensures.state c.remove-gone.ensures.unchanged (λ e. Rattle.std.proofs.Common.ap (λ r. r.state) e)
