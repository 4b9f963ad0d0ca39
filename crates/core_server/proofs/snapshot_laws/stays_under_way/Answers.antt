use Rattle.core_server.proofs.Lasting.{stays_under_way}
use Rattle.core_server.proofs.snapshot_laws.stays_under_way.Goals as goal

pub returns : goal.returns
returns c = stays_under_way
