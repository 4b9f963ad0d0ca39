use Rattle.core_machine.proofs.Staying.{refusals_stay}
use Rattle.core_machine.proofs.laws.refusals_stay.Goals as goal

pub returns : goal.returns
returns c = refusals_stay
