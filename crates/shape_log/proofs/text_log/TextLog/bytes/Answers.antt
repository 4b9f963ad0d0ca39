use Rattle.std.proofs.Common.{ap, length, map, arith}
use Rattle.std.specs.List.{sum}
use Rattle.shape_log.specs.Texts.{TextLogged}
use Rattle.shape_log.specs.Inside.{texts_in}
use Rattle.shape_log.proofs.Appending.{pieces_length, closed_length}
use Rattle.shape_log.proofs.text_log.TextLog.bytes.Goals as goal

pub overflow_sub-result : goal.overflow_sub-result
overflow_sub-result c =
    let l = c.self.inside in
    omega (arith, closed_length (texts_in l), ap length c.self.invariant.bytes, pieces_length 0 l.ends.items l.rope.bytes, ap length c.as_slice.ensures.value)

pub returns : goal.returns
returns c =
    let l = c.self.inside in
    omega (arith, closed_length (texts_in l), ap length c.self.invariant.bytes, pieces_length 0 l.ends.items l.rope.bytes, ap length c.as_slice.ensures.value, ap (λ (x : TextLogged). sum (map length x.texts)) c.self.view_is)
