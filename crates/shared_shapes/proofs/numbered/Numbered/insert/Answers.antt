use Rattle.std.proofs.Common.{◌∙◌, ap}
use Rattle.std.specs.FinMap as fin
use Rattle.shape_registry.proofs.KeptValues.{insert_in}
use Rattle.shared_shapes.proofs.numbered.Numbered.insert.Goals as goal

pub returns-in-Ok-clause-ok : goal.returns-in-Ok-clause-ok
returns-in-Ok-clause-ok g c = insert_in c.self.inside.values c.insert.new.self c.args.number c.args.value c.in-Ok.ensures.updates.0 ∙ ap (λ m. fin.insert m c.args.number c.args.value) c.self.view_is
