use Rattle.change_map.proofs.Utf8Wants.{wants_nothing}
use Rattle.change_map.proofs.wanted.nothing.Goals as goal

pub returns : goal.returns
returns c = wants_nothing
