use Rattle.shared_shapes.proofs.Seating.{seats_after}
use Rattle.shared_shapes.proofs.shared.Shared.register.Goals as goal

pub returns-clause-known : goal.returns-clause-known
returns-clause-known g c = let b = c.in-Ok.birth in seats_after c.args.pass.now.reg c.register.new.me c.args.pass.now.seats c.register.new.seats c.args.test.now c.args.self.now.limits b.slot b.seat b.pass.value b.ready.value b.identity _ c.register.result
    c.in-Ok.ensures.born c.requires.known c.register.ensures.on c.register.ensures.place c.register.ensures.seats c.register.ensures.refused c.register.ensures.same
