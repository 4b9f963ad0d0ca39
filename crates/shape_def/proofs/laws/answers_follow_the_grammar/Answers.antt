use Rattle.shape_def.proofs.Reading.{follows_the_grammar}
use Rattle.shape_def.proofs.laws.answers_follow_the_grammar.Goals as goal

pub returns : goal.returns
returns c = follows_the_grammar
