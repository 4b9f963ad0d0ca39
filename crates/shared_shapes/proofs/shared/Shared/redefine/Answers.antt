use Rattle.shared_shapes.proofs.Seating.{seats_on}
use Rattle.shared_shapes.proofs.shared.Shared.redefine.Goals as goal

pub returns-clause-known : goal.returns-clause-known
returns-clause-known g c = seats_on c.args.pass.now.reg.seen c.redefine.new.me.seen c.args.pass.now.seats c.redefine.ensures.seen c.requires.known
