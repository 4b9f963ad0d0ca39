use Rattle.std.proofs.Common.{inr, refl}
use Rattle.pg_wire.specs.ErrorFields.{sqlstate_of}
use Rattle.pg_dialogue.proofs.Texts.{told, untold}
use Rattle.pg_dialogue.proofs.replies.error_response.Goals as goal

pub returns-in-Ok : goal.returns-in-Ok
returns-in-Ok c = inr (told c.args.place (sqlstate_of c.args.payload.now) c.in-Some.code.now c.in-Ok.sqlstate c.in-Some.ensures c.in-Ok.ensures.read.0 c.in-Ok.ensures.read.1)

pub returns-in-Err-NotUtf8 : goal.returns-in-Err-NotUtf8
returns-in-Err-NotUtf8 c = inr (untold c.args.place (sqlstate_of c.args.payload.now) c.in-Some.code.now c.in-Some.ensures (c.in-Err-NotUtf8.ensures.refused c.in-Err-NotUtf8.field-0-0 (rw c.in-Err-NotUtf8.field-0-is refl)).0)
