use Rattle.shape_base.proofs.ChunkLaws.{chunks_cut}
use Rattle.shape_base.proofs.laws.chunks_cut.Goals as goal

pub returns : goal.returns
returns c = chunks_cut
