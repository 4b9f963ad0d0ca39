use Rattle.script_check.proofs.Visible.{honest_is_honest}
use Rattle.script_check.proofs.laws.honest_is_honest.Goals as goal

pub returns : goal.returns
returns c = honest_is_honest
