use Rattle.std.proofs.Common.{[], append-nil}
use Rattle.shared_shapes.proofs.Seating.{seats_changed, same_right, no_right}
use Rattle.shared_shapes.proofs.shared.Shared.finish.Goals as goal

pub returns-in-Ok-clause-known : goal.returns-in-Ok-clause-known
returns-in-Ok-clause-known g c = let d = c.in-Ok.ensures.snaps in seats_changed c.args.pass.now.reg.seen c.settle.new.me.seen c.args.pass.now.seats c.snap_at.new.seats c.args.number _ d c.requires.known c.settle.ensures.on.seen d.on.on.lock
    (no_right d.before d.after d.on.right)

pub returns-in-Err-clause-known : goal.returns-in-Err-clause-known
returns-in-Err-clause-known g c = let d = c.in-Err.ensures.refused in seats_changed c.args.pass.now.reg.seen c.args.pass.now.reg.seen c.args.pass.now.seats c.snap_at.new.seats c.args.number _ d c.requires.known ([], append-nil c.args.pass.now.reg.seen) d.on.on.lock
    (same_right d.before d.after d.on.right)
