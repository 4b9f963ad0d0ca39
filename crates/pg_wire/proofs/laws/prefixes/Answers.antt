use Rattle.pg_wire.proofs.Reading.{prefixes}
use Rattle.pg_wire.proofs.laws.prefixes.Goals as goal

pub returns : goal.returns
returns c = prefixes
