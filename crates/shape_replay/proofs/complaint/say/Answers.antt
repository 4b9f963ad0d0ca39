use Rattle.std.proofs.Common.{ℕ, List, Bor, ◌∙◌, sym, ap, ◌++◌}
use Rattle.std.specs.List.{flat_map}
use Rattle.std.proofs.lemmas.List.{at_drop_more, drop_all}
use Rattle.shape_replay.proofs.Saying.{said_front, said_whole}
use Rattle.shape_replay.proofs.complaint.say.Goals as goal

pub returns-in-Err : goal.returns-in-Err
returns-in-Err g c t =
    let inv = c.loop-piece.invariant in
    let next = at_drop_more (flat_map (λ (piece : Bor (List ℕ)). piece.now)) c.args.pieces.now c.loop-piece.piece-index _ c.loop-piece-test.true in
    said_front _ _ _ _ _ _ _ _ _ (inv.longer t) (ap (λ xs. g.E.Traffic.written c.loop-piece.err ++ xs) (sym next) ∙ inv.owed t) inv.later (rw c.as_bytes.ensures.value at (c.in-Err.ensures.err t)) c.in-Err.ensures.cause

pub returns : goal.returns
returns g c t = said_whole _ _ _ _ _ (rw (drop_all c.loop-piece.piece-index c.args.pieces.now c.loop-piece-test.false) at (c.loop-piece.invariant.owed t))
