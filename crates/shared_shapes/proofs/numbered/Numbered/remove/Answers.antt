use Rattle.std.proofs.Common.{◌∙◌, ap}
use Rattle.std.specs.FinMap as fin
use Rattle.shape_registry.proofs.KeptValues.{remove_in}
use Rattle.shared_shapes.proofs.numbered.Numbered.remove.Goals as goal

pub returns : goal.returns
returns g c = remove_in c.self.inside.values c.remove-was.new.self c.args.number c.remove-was.ensures.updates.0 ∙ ap (λ m. fin.remove m c.args.number) c.self.view_is
