use Rattle.core_machine.proofs.Owning.{snapshots_end_once}
use Rattle.core_machine.proofs.laws.snapshots_end_once.Goals as goal

pub returns : goal.returns
returns c = snapshots_end_once
