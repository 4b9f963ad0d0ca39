use Rattle.core_server.proofs.Lasting.{last_is_taken}
use Rattle.core_server.proofs.snapshot_laws.last_is_taken.Goals as goal

pub returns : goal.returns
returns c = last_is_taken
