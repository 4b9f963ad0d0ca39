use Rattle.where_eval.proofs.Truths.{not_all, not_any}
use Rattle.where_eval.proofs.laws.de_morgan.Goals as goal

pub returns : goal.returns
returns c = (not_all, not_any)
