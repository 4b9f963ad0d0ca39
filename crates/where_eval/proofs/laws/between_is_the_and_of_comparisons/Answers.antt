use Rattle.where_eval.proofs.Truths.{between_is_and}
use Rattle.where_eval.proofs.laws.between_is_the_and_of_comparisons.Goals as goal

pub returns : goal.returns
returns c = between_is_and
