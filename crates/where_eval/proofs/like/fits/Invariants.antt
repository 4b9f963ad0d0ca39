use Rattle.std.proofs.Common.{◌≡◌, ◌+◌, length}
use Rattle.std.specs.Str.{chars, IsUtf8}
use Rattle.where_eval.specs.Like.{fits}
use Rattle.where_eval.proofs.Likes.{led}
use Rattle.where_eval.proofs.like.fits.Given as goal

abbrev pub invariant-loop-others : goal.invariant-loop-others
invariant-loop-others l = (fits (led l.behind_run l.asked) (chars l.left) ≡ fits l.pieces (chars l.text)) × IsUtf8 l.left

abbrev pub decreases-loop-others : goal.decreases-loop-others
decreases-loop-others l = length l.asked + length (chars l.left)
