use Rattle.shape_base.proofs.Rising.{offsets_rise}
use Rattle.shape_base.proofs.laws.offsets_rise.Goals as goal

pub returns : goal.returns
returns c = offsets_rise
