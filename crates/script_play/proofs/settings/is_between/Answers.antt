use Rattle.std.proofs.Common.{arith}
use Rattle.script_play.proofs.Words.{between_is}
use Rattle.script_play.proofs.settings.is_between.Goals as goal

pub returns-in-Some : goal.returns-in-Some
returns-in-Some c = between_is _ _ _ _ c.in-Some.number (c.in-Some.ensures.read) (let t = rw c.in-Some.is at c.read_decimal.type_inv in t.1.1.1.1.0.1) (omega (arith, c.ranges.most.fits)) c.is_in.ensures
