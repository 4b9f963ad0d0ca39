use Rattle.script_writing.proofs.ItemTaken.{items_are_written as law}
use Rattle.script_writing.proofs.laws.items_are_written.Goals as goal

pub returns : goal.returns
returns c = law
