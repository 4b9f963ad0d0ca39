use Rattle.std.proofs.Common.{◌∙◌, ap, sym}
use Rattle.std.specs.FinMap as fin
use Rattle.shape_registry.proofs.KeptValues.{get_in, remove_in}
use Rattle.shared_shapes.proofs.numbered.Numbered.take.Goals as goal

pub returns-clause-value : goal.returns-clause-value
returns-clause-value g c = c.remove.ensures.value ∙ sym (get_in c.self.inside.values c.args.number) ∙ ap (λ m. fin.get m c.args.number) c.self.view_is

pub returns-clause-rest : goal.returns-clause-rest
returns-clause-rest g c = remove_in c.self.inside.values c.remove.new.self c.args.number c.remove.ensures.updates.0 ∙ ap (λ m. fin.remove m c.args.number) c.self.view_is
