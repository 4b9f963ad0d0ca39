use Rattle.std.proofs.Common.{refl, ◌+◌, arith}
use Rattle.pg_wire.proofs.Looking.{refused_payload, framed_first}
use Rattle.pg_wire.proofs.first.framed_of.Goals as goal

pub returns-in-Ok : goal.returns-in-Ok
returns-in-Ok c = (omega arith, c.requires.inside, framed_first c.args.place c.args.kind c.args.len (5 + c.args.len) c.args.bytes.now c.in-Ok.content c.requires.whole refl c.in-Ok.ensures)

pub returns-in-Err : goal.returns-in-Err
returns-in-Err c = refused_payload c.args.place c.args.kind c.args.len (5 + c.args.len) c.args.bytes.now c.in-Err.error c.requires.whole refl c.in-Err.ensures
