use Rattle.script_check.proofs.Steady.{kept_is_declared}
use Rattle.script_check.proofs.laws.kept_is_declared.Goals as goal

pub returns : goal.returns
returns c = kept_is_declared
