use Rattle.script_check.proofs.Visible.{refused_is_dishonest}
use Rattle.script_check.proofs.laws.dishonest_is_refused.Goals as goal

pub returns : goal.returns
returns c = refused_is_dishonest
