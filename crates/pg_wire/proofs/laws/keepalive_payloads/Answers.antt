use Rattle.pg_wire.proofs.Reading.{keepalive_payloads}
use Rattle.pg_wire.proofs.laws.keepalive_payloads.Goals as goal

pub returns : goal.returns
returns c = keepalive_payloads
