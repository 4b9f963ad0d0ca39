use Rattle.std.proofs.Common.{inl, subst, ap, Err, length, arith}
use Rattle.httparse.specs.Grammar.{NeverHasRequest}
use Rattle.http_edge.specs.Head.{HasManyFields}
use Rattle.http_edge.proofs.Heads.{many_fields, never_begins}
use Rattle.http_edge.proofs.head.refusal_of_many.Goals as goal

pub returns-in-Ok-Complete : goal.returns-in-Ok-Complete
returns-in-Ok-Complete c =
    let head = rw c.in-Ok-Complete.field-0-is at c.in-Ok-Complete.ensures.complete in
    inl (subst HasManyFields c.requires.looked_at (many_fields c.args.bytes.now head.0 _ c.requires.many head.1.reads))

pub returns : goal.returns
returns c =
    subst NeverHasRequest c.requires.looked_at
    (never_begins c.args.bytes.now (length c.as_mut_slice.result.now) c.in-Err.field-0 (omega (arith, c.as_mut_slice.ensures.len, c.in-Ok.ensures.len)) c.in-Err.ensures.invalid (λ e. c.in-Err.ensures.too_many (ap Err e)))
