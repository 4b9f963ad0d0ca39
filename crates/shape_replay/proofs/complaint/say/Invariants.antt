use Rattle.std.proofs.Common.{◌≡◌, ◌≤◌, ◌++◌, true, length, drop}
use Rattle.std.specs.List.{flat_map}
use Rattle.shape_replay.proofs.complaint.say.Given as goal

-- what is written, with the pieces that are left, is all that is said
abbrev pub invariant-loop-piece : goal.invariant-loop-piece
invariant-loop-piece g l =
    let written = g.E.Traffic.written in
    record {
      owed : g.E.Traffic.tells ≡ true → written l.err ++ flat_map (λ piece. piece.now) (drop l.piece-index l.pieces) ≡ written l.fn.err ++ flat_map (λ piece. piece.now) l.pieces;
      longer : g.E.Traffic.tells ≡ true → length (written l.fn.err) ≤ length (written l.err);
      later : g.E.Traffic.failed_writes l.fn.err ≤ g.E.Traffic.failed_writes l.err;
    }
