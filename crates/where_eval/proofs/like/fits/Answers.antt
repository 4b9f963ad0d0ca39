use Rattle.std.proofs.Common.{sym, ◌∙◌}
use Rattle.std.specs.Str.{chars}
use Rattle.where_eval.proofs.Likes.{led_whole}
use Rattle.where_eval.proofs.like.fits.Goals as goal

pub returns-in-Whole : goal.returns-in-Whole
returns-in-Whole c = sym (led_whole c.loop-others.behind_run c.loop-others.asked.now (chars c.loop-others.left.now) c.in-Whole.ensures) ∙ c.loop-others.invariant.0
