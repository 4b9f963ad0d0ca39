use Rattle.core_law.proofs.Reaching.{roles_are_given}
use Rattle.core_law.proofs.roles_are_given.Goals as goal

pub returns : goal.returns
returns c = roles_are_given
