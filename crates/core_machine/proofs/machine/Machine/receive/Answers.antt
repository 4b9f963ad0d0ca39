use Rattle.std.specs.Prelude.{slice_get}
use Rattle.core_machine.proofs.Receiving.{receipt_situated}
use Rattle.core_machine.proofs.machine.Machine.receive.Goals as goal

pub returns-clause-situated : goal.returns-clause-situated
returns-clause-situated c = let w = c.requires in receipt_situated w.options w.situation c.args.client c.args.exchange (slice_get w.situation.customers c.args.client) (slice_get w.situation.exchanges c.args.exchange) c.in_ok-received.received _ (c.in_ok-received.ensures w.options w.situation w.stands)
