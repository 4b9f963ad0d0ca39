use Rattle.std.proofs.Common.{arith, ap, length, length-append}
use Rattle.shape_log.specs.Roped.{Roped, flat}
use Rattle.shape_log.proofs.Parts.{placed_length}
use Rattle.shape_log.proofs.rope.Rope.len.Goals as goal

pub returns : goal.returns
returns c =
    let r = c.self.inside in
    omega (arith, c.len.ensures.value, ap (λ (x : Roped). length x.bytes) c.self.view_is, length-append (flat r.parts.items) r.last.items, placed_length 0 r.parts.items r.start c.self.invariant.placed)
