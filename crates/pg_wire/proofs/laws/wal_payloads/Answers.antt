use Rattle.pg_wire.proofs.Reading.{wal_payloads}
use Rattle.pg_wire.proofs.laws.wal_payloads.Goals as goal

pub returns : goal.returns
returns c = wal_payloads
