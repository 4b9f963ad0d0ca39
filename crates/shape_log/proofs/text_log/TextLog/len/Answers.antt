use Rattle.std.proofs.Common.{ap, length, arith}
use Rattle.shape_log.specs.Texts.{TextLogged}
use Rattle.shape_log.proofs.Appending.{pieces_length}
use Rattle.shape_log.proofs.text_log.TextLog.len.Goals as goal

pub returns-clause-texts : goal.returns-clause-texts
returns-clause-texts c =
    let l = c.self.inside in
    omega (arith, pieces_length 0 l.ends.items l.rope.bytes, c.self.invariant.same, ap (λ (x : TextLogged). length x.texts) c.self.view_is, ap length c.as_slice.ensures.value)
