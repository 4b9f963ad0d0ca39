use Rattle.where_grammar.proofs.Cuts.{one_answer}
use Rattle.where_grammar.proofs.laws.one_answer.Goals as goal

pub returns : goal.returns
returns c = one_answer
