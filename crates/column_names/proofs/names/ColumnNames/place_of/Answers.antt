use Rattle.std.proofs.Common.{◌∙◌, ap, List, ℕ, Option}
use Rattle.shape_base.specs.Tables.{place_of}
use Rattle.column_names.proofs.Indexing.{found_within}
use Rattle.column_names.proofs.names.ColumnNames.place_of.Goals as goal

pub returns-clause-first : goal.returns-clause-first
returns-clause-first c = c.place_under.ensures ∙ ap (λ (f : List ℕ → Option ℕ). f c.args.name.now) c.self.invariant.finds ∙ ap (λ cs. place_of cs c.args.name.now) c.self.view_is

pub returns-clause-within : goal.returns-clause-within
returns-clause-within c = found_within _ c.args.name.now _ (c.place_under.ensures ∙ ap (λ (f : List ℕ → Option ℕ). f c.args.name.now) c.self.invariant.finds ∙ ap (λ cs. place_of cs c.args.name.now) c.self.view_is)
