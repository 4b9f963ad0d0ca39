use Rattle.where_eval.proofs.LikeLaws.{to_like, from_like}
use Rattle.where_eval.proofs.laws.like_is_the_relation.Goals as goal

pub returns : goal.returns
returns c = λ pattern text whole. (to_like pattern text whole, from_like)
