use Rattle.std.proofs.Common.{◌≡◌, length}
use Rattle.std.specs.Str.{chars, IsUtf8}
use Rattle.where_eval.specs.Like.{is_cut}
use Rattle.where_eval.proofs.like.is_cut.Given as goal

abbrev pub invariant-loop-first : goal.invariant-loop-first
invariant-loop-first l = (is_cut (chars l.left) ≡ is_cut (chars l.pattern)) × IsUtf8 l.left

abbrev pub decreases-loop-first : goal.decreases-loop-first
decreases-loop-first l = length (chars l.left)
