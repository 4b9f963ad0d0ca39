use Rattle.std.proofs.Common.{rules}
use Rattle.shared_shapes.proofs.Places.{placed_on}
use Rattle.shared_shapes.proofs.steps.make_ready.Goals as goal

pub make_ready-requires-clause-place : goal.make_ready-requires-clause-place
make_ready-requires-clause-place g c = placed_on c.args.me.now.seen c.take-held.result.0.seen c.args.number _ (search rules) c.requires.place
