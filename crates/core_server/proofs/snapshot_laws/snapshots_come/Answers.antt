use Rattle.core_server.proofs.Refusing.{snapshots_come}
use Rattle.core_server.proofs.snapshot_laws.snapshots_come.Goals as goal

pub returns : goal.returns
returns c = snapshots_come
