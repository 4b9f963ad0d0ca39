use Rattle.core_server.proofs.Refusing.{heads_are_refused}
use Rattle.core_server.proofs.snapshot_laws.heads_are_refused.Goals as goal

pub returns : goal.returns
returns c = heads_are_refused
