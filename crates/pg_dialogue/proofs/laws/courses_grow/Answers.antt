use Rattle.pg_dialogue.proofs.Growing.{courses_longer}
use Rattle.pg_dialogue.proofs.laws.courses_grow.Goals as goal

pub returns : goal.returns
returns c = courses_longer
