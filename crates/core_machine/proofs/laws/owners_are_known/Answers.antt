use Rattle.core_machine.proofs.Owning.{owners_are_known}
use Rattle.core_machine.proofs.laws.owners_are_known.Goals as goal

pub returns : goal.returns
returns c = owners_are_known
