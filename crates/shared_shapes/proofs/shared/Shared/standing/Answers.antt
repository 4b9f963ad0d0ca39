use Rattle.shared_shapes.proofs.Seating.{seats_on}
use Rattle.shared_shapes.proofs.shared.Shared.standing.Goals as goal

pub returns-clause-known : goal.returns-clause-known
returns-clause-known g c = seats_on c.args.pass.now.reg.seen c.standing.new.me.seen c.args.pass.now.seats c.standing.ensures.on.seen c.requires.known
