use Rattle.std.proofs.Common.{◌≡◌, ◌+◌, ◌++◌, ℕ, List, length, take, sym, ◌∙◌, ap, append_assoc, arith}
use Rattle.std.proofs.lemmas.List.{length-take, take-append-le}
use Rattle.pg_dialogue.proofs.Filling.{takes_step, since_step}
use Rattle.pg_dialogue.proofs.inbox.Inbox.fill.Goals as goal

pub pieces-preserved : goal.pieces-preserved
pieces-preserved g c =
    let n = c.in-Ok.count in
    let piece : List ℕ = take n c.read.new.room in
    let len : length piece ≡ n = omega (arith, c.in-Ok.ensures.bound, length-take n c.read.new.room) in
    record {
      took = λ t. takes_step _ _ piece (c.pieces.self.place + n) (c.pieces.invariant.took t) (c.in-Ok.ensures.given t) (c.in-Ok.ensures.left t) (omega (arith, len));
      filled = λ t.
          c.in_ok-extend_from_slice.ensures.items ∙ ap (λ (xs : List ℕ). c.pieces.self.payload.items ++ xs) (take-append-le n c.read.new.room _ (omega (arith, c.in-Ok.ensures.bound)))
          ∙ ap (λ (xs : List ℕ). xs ++ piece) (c.pieces.invariant.filled t) ∙ append_assoc c.args.self.now.payload.items _ piece
          ∙ ap (λ (xs : List ℕ). c.args.self.now.payload.items ++ xs) (sym (since_step _ piece (c.pieces.invariant.took t) (c.in-Ok.ensures.given t)));
      within = omega (arith, c.in_ok-extend_from_slice.ensures.len, c.in-Ok.ensures.bound, c.read.auto.room, length-take {A = ℕ});
      counted = omega (arith, c.in_ok-extend_from_slice.ensures.len, len, c.pieces.invariant.counted, c.in-Ok.ensures.bound, length-take {A = ℕ});
      later = omega (arith, c.read.ensures.later);
      written = c.in-Ok.ensures.written ∙ c.pieces.invariant.written;
      writes = c.in-Ok.ensures.writes ∙ c.pieces.invariant.writes;
    }
