use Rattle.std.proofs.Common.{◌<◌, ◌≤◌, ◌-◌, ◌∙◌, ap, ap₂, List, ℕ, length, arith}
use Rattle.std.specs.Prelude.{slice_range}
use Rattle.shape_log.specs.Texts.{TextLogged, position, positions, joined}
use Rattle.shape_log.specs.Inside.{texts_in}
use Rattle.shape_log.proofs.Appending.{pieces_length, stretch, in_order}
use Rattle.shape_log.proofs.text_log.TextLog.inner.Goals as goal

pub position-start-requires : goal.position-start-requires
position-start-requires c =
    let l = c.self.inside in
    omega (arith, c.requires.order, c.requires.within, pieces_length 0 l.ends.items l.rope.bytes, ap (λ (x : TextLogged). length x.texts) c.self.view_is, ap length c.as_slice-ends.ensures.value)

pub position-end-requires : goal.position-end-requires
position-end-requires c =
    let l = c.self.inside in
    omega (arith, c.requires.within, pieces_length 0 l.ends.items l.rope.bytes, ap (λ (x : TextLogged). length x.texts) c.self.view_is, ap length c.as_slice-ends.ensures.value)

pub overflow_sub-end : goal.overflow_sub-end
overflow_sub-end c =
    let l = c.self.inside in
    let lt : c.args.from < c.args.to = omega (arith, c.requires.order, c.if-from-to.false) in
    let le : c.args.to ≤ length (texts_in l) = omega (arith, c.requires.within, ap (λ (x : TextLogged). length x.texts) c.self.view_is) in
    omega (arith, c.position-end.ensures, ap (λ (ns : List ℕ). position ns c.args.to) (c.as_slice-ends.ensures.value ∙ c.self.invariant.ends), (in_order (texts_in l) c.args.from c.args.to lt le).0)

pub cut-requires-clause-order : goal.cut-requires-clause-order
cut-requires-clause-order c =
    let l = c.self.inside in
    let lt : c.args.from < c.args.to = omega (arith, c.requires.order, c.if-from-to.false) in
    let le : c.args.to ≤ length (texts_in l) = omega (arith, c.requires.within, ap (λ (x : TextLogged). length x.texts) c.self.view_is) in
    omega (arith, c.position-start.ensures, c.position-end.ensures, ap (λ (ns : List ℕ). position ns c.args.to) (c.as_slice-ends.ensures.value ∙ c.self.invariant.ends), ap (λ (ns : List ℕ). position ns c.args.from) (c.as_slice-ends.ensures.value ∙ c.self.invariant.ends), (in_order (texts_in l) c.args.from c.args.to lt le).0)

pub cut-requires-clause-within : goal.cut-requires-clause-within
cut-requires-clause-within c =
    let l = c.self.inside in
    let lt : c.args.from < c.args.to = omega (arith, c.requires.order, c.if-from-to.false) in
    let le : c.args.to ≤ length (texts_in l) = omega (arith, c.requires.within, ap (λ (x : TextLogged). length x.texts) c.self.view_is) in
    omega (arith, c.position-end.ensures, ap (λ (ns : List ℕ). position ns c.args.to) (c.as_slice-ends.ensures.value ∙ c.self.invariant.ends), (in_order (texts_in l) c.args.from c.args.to lt le).1, ap length c.self.invariant.bytes)

pub returns : goal.returns
returns c =
    let l = c.self.inside in
    let lt : c.args.from < c.args.to = omega (arith, c.requires.order, c.if-from-to.false) in
    let le : c.args.to ≤ length (texts_in l) = omega (arith, c.requires.within, ap (λ (x : TextLogged). length x.texts) c.self.view_is) in
    let ends = c.as_slice-ends.ensures.value ∙ c.self.invariant.ends in
    c.in_ok-bytes.ensures
    ∙ ap₂ (λ (m n : ℕ). slice_range l.rope.bytes m (n - 1)) (c.position-start.ensures ∙ ap (λ (ns : List ℕ). position ns c.args.from) ends) (c.position-end.ensures ∙ ap (λ (ns : List ℕ). position ns c.args.to) ends)
    ∙ ap (λ (zs : List ℕ). slice_range zs (position (positions 0 (texts_in l)) c.args.from) (position (positions 0 (texts_in l)) c.args.to - 1)) c.self.invariant.bytes
    ∙ stretch (texts_in l) c.args.from c.args.to lt le
    ∙ ap (λ (x : TextLogged). joined (slice_range x.texts c.args.from c.args.to)) c.self.view_is
