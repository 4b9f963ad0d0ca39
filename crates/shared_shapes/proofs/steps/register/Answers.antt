use Rattle.std.proofs.Common.{rules, ◌≡◌, ◌∷◌, ◌++◌, [], false, ap, ◌∙◌}
use Rattle.shape_base.specs.declared.registry_event.RegistryEvent.TheVariants.{Registered}
use Rattle.shape_base.specs.RegistryHistory.{was_registered}
use Rattle.shared_shapes.specs.Events.{began, place_in, place_of, events_of}
use Rattle.shared_shapes.proofs.Places.{place_new}
use Rattle.shared_shapes.proofs.Boards.{fresh, itself}
use Rattle.shared_shapes.proofs.Seating.{seats_on}
use Rattle.shared_shapes.proofs.steps.register.Goals as goal

pub enter-requires-clause-seats : goal.enter-requires-clause-seats
enter-requires-clause-seats g c = seats_on c.args.me.now.seen c.take-held.result.0.seen c.args.seats.now (search rules) c.requires.seats

pub returns-in-Ok-clause-place : goal.returns-in-Ok-clause-place
returns-in-Ok-clause-place g c = let s = c.take-held.result.1 in let es = c.take-held.result.0.seen in let n = c.in-Ok.number in
    let e = began (Registered n c.args.birth.identity c.args.birth.table c.last-last.result) (place_in c.args.birth.pass.value c.args.birth.ready.value) in
    let seen : c.match-event-2.me.seen ≡ es ++ e ∷ [] = search rules in
    let none : was_registered (events_of es) n ≡ false = ap (λ k. was_registered (events_of es) k) c.in-Ok.ensures.number ∙ fresh s.about s.registry s.fed s.given _ es c.take-held.ensures.stands in
    ap (λ l. place_of l n) seen ∙ place_new es e n none (itself n)
