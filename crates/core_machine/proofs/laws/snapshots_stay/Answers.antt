use Rattle.core_machine.proofs.Staying.{snapshots_stay}
use Rattle.core_machine.proofs.laws.snapshots_stay.Goals as goal

pub returns : goal.returns
returns c = snapshots_stay c.stays_under_way.ensures
