use Rattle.std.proofs.Common.{◌≤◌, ap, ◌∙◌, List, ℕ, length, arith}
use Rattle.shape_log.specs.Texts.{TextLogged, position}
use Rattle.shape_log.specs.Inside.{texts_in}
use Rattle.shape_log.proofs.Appending.{pieces_length, place_of, split_at}
use Rattle.shape_log.proofs.text_log.TextLog.seal.Goals as goal

pub position-end-requires : goal.position-end-requires
position-end-requires c =
    let l = c.self.inside in
    omega (arith, c.requires, pieces_length 0 l.ends.items l.rope.bytes, ap (λ (x : TextLogged). length x.texts) c.self.view_is, ap length c.as_slice.ensures.value)

pub freeze-requires : goal.freeze-requires
freeze-requires c =
    let l = c.self.inside in
    let place = c.args.place in
    let le : place ≤ length (texts_in l) = omega (arith, c.requires, ap (λ (x : TextLogged). length x.texts) c.self.view_is) in
    omega (arith, c.position-end.ensures, ap (λ (ns : List ℕ). position ns place) (c.as_slice.ensures.value ∙ c.self.invariant.ends), place_of (texts_in l) place le, split_at (texts_in l) place, ap length c.self.invariant.bytes)
