use Rattle.pg_wire.proofs.Converse.{refused_bytes_law}
use Rattle.pg_wire.proofs.laws.refused_bytes.Goals as goal

pub returns : goal.returns
returns c = refused_bytes_law
