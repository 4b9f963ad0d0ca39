use Rattle.std.proofs.Common.{rules}
use Rattle.shape_registry.specs.Names.{part_of}
use Rattle.shape_registry.proofs.names.part_of.Goals as goal

pub returns-clause-part : goal.returns-clause-part
unfolding part_of
returns-clause-part c = search rules
