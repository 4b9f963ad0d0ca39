use Rattle.std.proofs.Common.{◌∙◌, ap, nat_lt}
use Rattle.core_exchanges.proofs.Standings.{same_length}
use Rattle.core_exchanges.proofs.exchanges.Exchanges.has_room.Goals as goal

pub returns-clause-room : goal.returns-clause-room
returns-clause-room c s h = ap (λ n. nat_lt n 10000) (c.len.ensures ∙ c.args.self.now.items.ok.0 ∙ same_length c.args.self.now.items.items s.exchanges h.each)
