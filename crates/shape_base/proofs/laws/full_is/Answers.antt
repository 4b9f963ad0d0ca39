use Rattle.shape_base.proofs.ChunkLaws.{full_is}
use Rattle.shape_base.proofs.laws.full_is.Goals as goal

pub returns : goal.returns
returns c = full_is
