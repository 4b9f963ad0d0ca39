use Rattle.std.proofs.Common.{◌≡◌, ◌-◌, length}
use Rattle.pg_wire.specs.ErrorFields.{sqlstate_of, bytes_of}
use Rattle.pg_wire.proofs.ErrorScan.{still}
use Rattle.pg_wire.proofs.fields.sqlstate_at.Given as goal

abbrev pub invariant-loop : goal.invariant-loop
invariant-loop l = still (bytes_of l.found) (length l.payload - l.counter) l.rest ≡ sqlstate_of l.payload
