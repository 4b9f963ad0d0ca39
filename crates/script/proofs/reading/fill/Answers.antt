use Rattle.std.proofs.Common.{◌≡◌, ◌-◌, ◌≤◌, ◌++◌, ℕ, List, length, take, sym, ◌∙◌, ap, append_assoc, arith}
use Rattle.std.proofs.lemmas.List.{length-take, take-append-le}
use Rattle.script.proofs.Filling.{consumes_step, since_step}
use Rattle.script.proofs.reading.fill.Goals as goal

pub loop-buffer-preserved : goal.loop-buffer-preserved
loop-buffer-preserved g c =
    let n = c.in-Ok.count in
    let piece : List ℕ = take n c.read.new.room in
    let len : length piece ≡ n = omega (arith, c.in-Ok.ensures.bound, length-take n c.read.new.room) in
    let le : n ≤ c.loop-buffer.budget = omega (arith, c.in-Ok.ensures.bound, c.read.auto.room, length-take c.min-most.result c.loop-buffer.room) in
    record {
      took = λ t. consumes_step _ _ piece (c.loop-buffer.budget - n) (c.loop-buffer.invariant.took t) (c.in-Ok.ensures.given t) (c.in-Ok.ensures.left t) (omega (arith, len, le));
      filled = λ t.
          c.in_ok-extend_from_slice.ensures.items ∙ ap (λ (xs : List ℕ). c.loop-buffer.buffer.items ++ xs) (take-append-le n c.read.new.room _ (omega (arith, c.in-Ok.ensures.bound)))
          ∙ ap (λ (xs : List ℕ). xs ++ piece) (c.loop-buffer.invariant.filled t) ∙ append_assoc c.args.buffer.now.items _ piece
          ∙ ap (λ (xs : List ℕ). c.args.buffer.now.items ++ xs) (sym (since_step _ piece (c.loop-buffer.invariant.took t) (c.in-Ok.ensures.given t)));
      within = omega (arith, le, c.in_ok-extend_from_slice.ensures.len, c.in-Ok.ensures.bound, c.read.auto.room, length-take {A = ℕ});
      taken = omega (arith, c.in_ok-extend_from_slice.ensures.len, le, len, c.loop-buffer.invariant.taken, length-take {A = ℕ});
      later = omega (arith, c.read.ensures.later);
    }
