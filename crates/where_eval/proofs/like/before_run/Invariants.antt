use Rattle.std.proofs.Common.{◌≤◌, length}
use Rattle.std.specs.Str.{chars, IsUtf8}
use Rattle.where_eval.proofs.Likes.{IsWalked}
use Rattle.where_eval.proofs.like.before_run.Given as goal

abbrev pub invariant-loop-piece : goal.invariant-loop-piece
invariant-loop-piece l = IsWalked l.pieces (chars l.text) l.asked (chars l.left) × (length l.asked ≤ length l.pieces) × (length (chars l.left) ≤ length (chars l.text)) × IsUtf8 l.left

abbrev pub decreases-loop-piece : goal.decreases-loop-piece
decreases-loop-piece l = length l.asked
