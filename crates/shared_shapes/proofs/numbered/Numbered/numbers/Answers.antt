use Rattle.std.proofs.Common.{rules, sym, ap, ◌∙◌}
use Rattle.std.specs.Prelude.{is_some}
use Rattle.std.specs.List.{list_any}
use Rattle.std.specs.Ordering.{nat_cmp, eq_by_cmp}
use Rattle.std.specs.FinMap as fin
use Rattle.shape_registry.proofs.KeptValues.{get_in}
use Rattle.shared_shapes.proofs.numbered.Numbered.numbers.Goals as goal

pub returns : goal.returns
returns g c = λ n. ap is_some (sym (ap (λ m. fin.get m n) c.self.view_is) ∙ get_in c.self.inside.values n) ∙ c.keys.ensures.has n ∙ ap (list_any (eq_by_cmp nat_cmp n)) (search rules)
