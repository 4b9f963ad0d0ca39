use Rattle.core_machine.proofs.Staying.{exchanges_stay}
use Rattle.core_machine.proofs.laws.exchanges_stay.Goals as goal

pub returns : goal.returns
returns c = exchanges_stay
