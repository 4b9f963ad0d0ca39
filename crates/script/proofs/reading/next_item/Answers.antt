use Rattle.std.proofs.Common.{◌≡◌, ℕ, List, ◌++◌, ap, sym, refl, ◌∙◌, append_assoc, arith}
use Rattle.script.specs.Reading.{since}
use Rattle.script.proofs.Filling.{since_step}
use Rattle.script.proofs.Heads.{item_whole}
use Rattle.script.proofs.reading.next_item.Goals as goal

pub returns-clause-next : goal.returns-clause-next
returns-clause-next g c t rest =
    let g0 = g.S.Traffic.given c.args.source.now in
    let g1 = g.S.Traffic.given c.fill.new.source in
    let g2 = g.S.Traffic.given c.fill-2.new.source in
    let head : c.as_slice.result.now ≡ since g0 g1 = c.as_slice.ensures.value ∙ c.in_ok-fill.ensures.filled t ∙ ap (λ (xs : List ℕ). xs ++ since g0 g1) c.new-head.ensures.items in
    let payload : c.fill-2.new.buffer.items ≡ since g1 g2 = c.in_ok-fill-2.ensures.filled t ∙ ap (λ (xs : List ℕ). xs ++ since g1 g2) c.new-payload.ensures.items in
    let both = since_step g2 (since g1 g2) (c.in_ok-fill.ensures.took t) (c.in_ok-fill-2.ensures.took t).came in
    let whole : since g0 g2 ++ rest ≡ c.as_slice.result.now ++ (c.fill-2.new.buffer.items ++ rest)
    = ap (λ (xs : List ℕ). xs ++ rest) both ∙ append_assoc (since g0 g1) (since g1 g2) rest ∙ ap (λ (xs : List ℕ). xs ++ (since g1 g2 ++ rest)) (sym head) ∙ ap (λ (xs : List ℕ). c.as_slice.result.now ++ (xs ++ rest)) (sym payload) in
    item_whole _ c.as_slice.result.now (c.fill-2.new.buffer.items ++ rest) c.fill-2.new.buffer.items rest whole (omega arith) refl (omega (arith, c.in_ok-fill-2.ensures.full c.if-not-branch-2.false))
