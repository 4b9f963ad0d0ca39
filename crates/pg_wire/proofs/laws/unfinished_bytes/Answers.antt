use Rattle.pg_wire.proofs.Converse.{unfinished_bytes_law}
use Rattle.pg_wire.proofs.laws.unfinished_bytes.Goals as goal

pub returns : goal.returns
returns c = unfinished_bytes_law
