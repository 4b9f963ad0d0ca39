use Rattle.pg_wire.proofs.Reading.{whole_frames}
use Rattle.pg_wire.proofs.laws.whole_frames.Goals as goal

pub returns : goal.returns
returns c = whole_frames
