use Rattle.std.proofs.Common.{◌≡◌, ◌∙◌, ap, sym, subst}
use Rattle.std.specs.Prelude.{IfSome, slice_get}
use Rattle.shape_registry.proofs.Laws.{catalog_placed, catalog_by_history}
use Rattle.shape_registry.proofs.registry.Registry.catalog.Goals as goal

pub returns-clause-placed : goal.returns-clause-placed
returns-clause-placed g c = λ start es stands placed. subst (λ o. IfSome o (λ d. d.table ≡ c.args.table))
    (ap (λ ds. slice_get ds c.args.table) (sym (catalog_by_history start es c.args.self.now.state stands)) ∙ ap (λ r. slice_get r.state.catalog c.args.table) (sym c.self.view_is) ∙ c.definition.ensures)
    (catalog_placed start.catalog es placed c.args.table)
