use Rattle.std.proofs.Common.{arith}
use Rattle.shape_json.proofs.Digits.{length-position}
use Rattle.shape_json.proofs.size.position_size.Goals as goal

pub returns-clause-size : goal.returns-clause-size
returns-clause-size c = omega (arith, c.decimal_size.ensures.size, c.decimal_size-2.ensures.size, length-position c.args.lsn c.args.pos c.ranges.lsn.fits c.ranges.pos.fits)
