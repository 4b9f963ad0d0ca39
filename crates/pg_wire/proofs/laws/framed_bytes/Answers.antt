use Rattle.pg_wire.proofs.Converse.{framed_bytes_law}
use Rattle.pg_wire.proofs.laws.framed_bytes.Goals as goal

pub returns : goal.returns
returns c = framed_bytes_law
