use Rattle.shared_shapes.proofs.Seating.{seats_changed, same_right}
use Rattle.shared_shapes.proofs.shared.Shared.drop_shape.Goals as goal

pub returns-clause-known : goal.returns-clause-known
returns-clause-known g c = let d = c.drop_at.ensures in seats_changed c.args.pass.now.reg.seen c.remove.new.me.seen c.args.pass.now.seats c.drop_at.new.seats c.args.number _ d c.requires.known c.remove.ensures.on.seen d.on.on.lock
    (same_right d.before d.after d.on.right)
