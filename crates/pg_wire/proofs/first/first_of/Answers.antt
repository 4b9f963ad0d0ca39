use Rattle.std.proofs.Common.{inr, sym}
use Rattle.pg_wire.proofs.FrameLaws.{whole_size}
use Rattle.pg_wire.proofs.Looking.{open_first, refused_first}
use Rattle.pg_wire.proofs.first.first_of.Goals as goal

pub framed_of-requires-clause-inside : goal.framed_of-requires-clause-inside
framed_of-requires-clause-inside c = whole_size c.args.place c.args.bytes.now (c.in-Ok-Some.kind, c.in-Ok-Some.len) (sym (rw c.in-Ok-Some.field-0-is at c.in-Ok-Some.ensures))

pub returns-in-Ok-None : goal.returns-in-Ok-None
returns-in-Ok-None c = open_first c.args.place c.args.bytes.now (sym (rw c.in-Ok-None.field-0-is at c.in-Ok-None.ensures))

pub returns-in-Err : goal.returns-in-Err
returns-in-Err c = inr (refused_first c.args.place c.args.bytes.now c.in-Err.error (sym c.in-Err.ensures))
