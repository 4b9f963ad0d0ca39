use Rattle.std.proofs.Common.{◌≤◌, length, arith, refl, sym, subst, ap, Err}
use Rattle.std.specs.Str.{IsUtf8}
use Rattle.http_edge.proofs.ReadingLaws.{read_whole, no_body_answer}
use Rattle.http_edge.proofs.reading.with_rest.Goals as goal

pub returns-in-Ok : goal.returns-in-Ok
returns-in-Ok c =
    let long : c.args.head.length ≤ length c.args.rest.now = omega (arith, c.if-rest-head.false) in
    read_whole c.args.input.now c.args.head c.args.rest.now c.in-Ok.body _ _ c.requires long c.in-Ok.ensures.read.0 (subst IsUtf8 (sym c.in-Ok.ensures.read.0) c.in-Ok.ensures.read.1) c.with_body.ensures refl

pub returns-in-Err-NotUtf8 : goal.returns-in-Err-NotUtf8
returns-in-Err-NotUtf8 c =
    let long : c.args.head.length ≤ length c.args.rest.now = omega (arith, c.if-rest-head.false) in
    no_body_answer c.args.input.now c.args.head c.args.rest.now c.requires long (c.in-Err-NotUtf8.ensures.refused c.in-Err-NotUtf8.field-0-0 (ap Err c.in-Err-NotUtf8.field-0-is)).0
