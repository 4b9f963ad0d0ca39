use Rattle.std.proofs.Common.{length, ap, Err, subst, arith}
use Rattle.httparse.specs.Grammar.{HasNoRequest, NeverHasRequest}
use Rattle.http_edge.proofs.Heads.{looked_at, never_begins}
use Rattle.http_edge.proofs.HeadTells.{follows, none_without, none_ever}
use Rattle.http_edge.proofs.head.has_more.Goals as goal

pub returns-in-Ok-Complete : goal.returns-in-Ok-Complete
returns-in-Ok-Complete c =
    let head = rw c.in-Ok-Complete.field-0-is at c.in-Ok-Complete.ensures.complete in
    follows c.args.input.now _ head.0 _ c.in-Ok-Complete.head.len (looked_at c.args.input.now c.min.result c.min.ensures) head.1.reads head.1.len

pub returns-in-Ok-Partial : goal.returns-in-Ok-Partial
returns-in-Ok-Partial c =
    let none = rw c.in-Ok-Partial.field-0-is at c.in-Ok-Partial.ensures.partial in
    none_without c.args.input.now (subst HasNoRequest (looked_at c.args.input.now c.min.result c.min.ensures) none)

pub returns : goal.returns
returns c =
    none_ever c.args.input.now (subst NeverHasRequest (looked_at c.args.input.now c.min.result c.min.ensures)
    (never_begins _ (length c.as_mut_slice.result.now) c.in-Err.field-0 (omega (arith, c.as_mut_slice.ensures.len, c.in_ok-fields.ensures.len)) c.in-Err.ensures.invalid (λ e. c.in-Err.ensures.too_many (ap Err e))))
