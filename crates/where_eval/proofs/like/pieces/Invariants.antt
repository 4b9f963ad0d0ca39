use Rattle.std.proofs.Common.{◌≡◌, ◌++◌, length}
use Rattle.std.specs.Str.{chars, IsUtf8}
use Rattle.where_eval.specs.Like.{pieces_of}
use Rattle.where_eval.proofs.like.pieces.Given as goal

abbrev pub invariant-loop-first : goal.invariant-loop-first
invariant-loop-first l = (l.pieces.items ++ pieces_of (chars l.left) ≡ pieces_of (chars l.pattern)) × IsUtf8 l.left

abbrev pub decreases-loop-first : goal.decreases-loop-first
decreases-loop-first l = length (chars l.left)
