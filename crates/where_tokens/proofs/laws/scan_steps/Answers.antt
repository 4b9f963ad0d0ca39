use Rattle.where_tokens.proofs.Finds.{scan_steps}
use Rattle.where_tokens.proofs.laws.scan_steps.Goals as goal

pub returns : goal.returns
returns c = scan_steps
