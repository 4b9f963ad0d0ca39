use Rattle.shape_base.proofs.ChunkLaws.{chunks_stay}
use Rattle.shape_base.proofs.laws.chunks_stay.Goals as goal

pub returns : goal.returns
returns c = chunks_stay
