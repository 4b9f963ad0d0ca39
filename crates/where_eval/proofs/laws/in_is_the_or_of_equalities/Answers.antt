use Rattle.where_eval.proofs.Truths.{within_is_or}
use Rattle.where_eval.proofs.laws.in_is_the_or_of_equalities.Goals as goal

pub returns : goal.returns
returns c = within_is_or
