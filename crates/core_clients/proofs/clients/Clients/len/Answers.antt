use Rattle.std.proofs.Common.{◌∙◌}
use Rattle.core_clients.proofs.Standings.{same_length}
use Rattle.core_clients.proofs.clients.Clients.len.Goals as goal

pub returns : goal.returns
returns c customers h = c.len.ensures ∙ c.args.self.now.followers.ok.0 ∙ same_length c.args.self.now.followers.items customers h
