use Rattle.core_server.proofs.Refusing.{snapshots_end}
use Rattle.core_server.proofs.snapshot_laws.snapshots_end.Goals as goal

pub returns : goal.returns
returns c = snapshots_end
