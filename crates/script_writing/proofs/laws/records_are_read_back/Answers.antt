use Rattle.script_writing.proofs.ReadBack.{records_are_read_back as law}
use Rattle.script_writing.proofs.laws.records_are_read_back.Goals as goal

pub returns : goal.returns
returns c = law
