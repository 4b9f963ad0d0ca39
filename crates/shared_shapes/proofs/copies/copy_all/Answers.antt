use Rattle.std.proofs.Common.{rules, ◌≡◌, ◌<◌, ℕ, length, get_or, sym, ap, ◌∙◌, subst}
use Rattle.std.specs.Prelude.{IsSomeAnd}
use Rattle.std.specs.FinMap as fin
use Rattle.shared_shapes.specs.Seats.{AtSeat}
use Rattle.shared_shapes.specs.Sharing.{IsSame, IsCopy}
use Rattle.shared_shapes.proofs.Copying.{copying_start, copying_next, each_after, get_any}
use Rattle.shared_shapes.proofs.copies.copy_all.Goals as goal

pub loop-i-init : goal.loop-i-init
loop-i-init g c = subst (λ m. Rattle.shared_shapes.proofs.Copying.Copying c.args.seats.now c.args.seats.now m c.in_ok-numbers.numbers.items 0) (sym c.new-copies.ensures) (copying_start c.args.seats.now c.in_ok-numbers.numbers.items c.in_ok-numbers.ensures)

pub returns-in_err-seat-clause-same : goal.returns-in_err-seat-clause-same
returns-in_err-seat-clause-same g c = each_after c.args.seats.now c.loop-i.seats c.copy_at.new.seats _ c.loop-i.invariant.same c.copy_at.ensures.same

pub returns-in_err-insert-clause-same : goal.returns-in_err-insert-clause-same
returns-in_err-insert-clause-same g c = each_after c.args.seats.now c.loop-i.seats c.copy_at.new.seats _ c.loop-i.invariant.same c.copy_at.ensures.same

pub loop-i-preserved : goal.loop-i-preserved
loop-i-preserved g c = let ns = c.in_ok-numbers.numbers.items in let i = c.loop-i.i in let t = c.in_ok-seat.seat in
    let x = c.index-number.result.now in let there : i < length ns = search rules in let at : x ≡ get_or ns i x = search rules in
    let here : x ≡ get_or ns i 0 = at ∙ get_any ns i x 0 there in
    let put : c.insert.new.self ≡ fin.insert c.loop-i.copies c.index-number.result.now t = search rules in
    copying_next c.args.seats.now c.loop-i.seats c.copy_at.new.seats c.loop-i.copies c.insert.new.self ns i t c.loop-i.invariant
    (subst (λ (n : ℕ). AtSeat c.loop-i.seats c.copy_at.new.seats n IsSame) here c.copy_at.ensures.same)
    (subst (λ (n : ℕ). IsSomeAnd (fin.get c.loop-i.seats n) (λ s. IsCopy s t)) here c.in_ok-seat.ensures.copy)
    (put ∙ ap (λ (n : ℕ). fin.insert c.loop-i.copies n t) here)
