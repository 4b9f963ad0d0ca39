use Rattle.script_writing.proofs.ReadBack.{scripts_are_read_back as law}
use Rattle.script_writing.proofs.laws.scripts_are_read_back.Goals as goal

pub returns : goal.returns
returns c = law
