use Rattle.std.proofs.Common.{rules, ◌≡◌, ◌∷◌, ◌++◌, [], ap, ◌∙◌}
use Rattle.shape_base.specs.declared.registry_event.RegistryEvent.TheVariants.{Removed}
use Rattle.shape_base.specs.RegistryHistory.{is_live}
use Rattle.shared_shapes.specs.Events.{plain, events_of}
use Rattle.shared_shapes.proofs.Boards.{dead_after}
use Rattle.shared_shapes.proofs.steps.remove.Goals as goal

pub returns-then-remove-clause-dead : goal.returns-then-remove-clause-dead
returns-then-remove-clause-dead g c = let seen : c.give_with.result.seen ≡ c.take-held.result.0.seen ++ plain (Removed c.args.number c.args.cause) ∷ [] = search rules in
    ap (λ es. is_live (events_of es) c.args.number) seen ∙ dead_after c.take-held.result.0.seen c.args.number c.args.cause
