use Rattle.std.proofs.Common.{◌∙◌}
use Rattle.core_exchanges.proofs.Standings.{same_length}
use Rattle.core_exchanges.proofs.exchanges.Exchanges.len.Goals as goal

pub returns : goal.returns
returns c xs h = c.len.ensures ∙ c.args.self.now.items.ok.0 ∙ same_length c.args.self.now.items.items xs h.each
