use Rattle.shared_shapes.proofs.Seating.{seats_on}
use Rattle.shared_shapes.proofs.Told.{fits_of}
use Rattle.shared_shapes.proofs.shared.Shared.learn.Goals as goal

pub tell_all-requires : goal.tell_all-requires
tell_all-requires g c = let es = c.learn.new.self.seen in fits_of es c.args.note.seats c.args.pass.now.seats (seats_on c.args.note.reg.seen es c.args.note.seats c.learn.ensures.on.told_is c.requires.note.0)
    (seats_on c.args.pass.now.reg.seen es c.args.pass.now.seats c.learn.ensures.on.seen c.requires.known) c.requires.note.1

pub returns-clause-known : goal.returns-clause-known
returns-clause-known g c = let es = c.learn.new.self.seen in c.tell_all.ensures.known es (seats_on c.args.pass.now.reg.seen es c.args.pass.now.seats c.learn.ensures.on.seen c.requires.known)
    (seats_on c.args.note.reg.seen es c.args.note.seats c.learn.ensures.on.told_is c.requires.note.0)
