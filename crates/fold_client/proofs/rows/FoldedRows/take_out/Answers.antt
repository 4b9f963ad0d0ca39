use Rattle.std.proofs.Common.{ℕ, List, sym, ap, ◌∙◌}
use Rattle.std.specs.FinMap as fin
use Rattle.std.specs.HashMap as hash
use Rattle.shape_base.specs.Shape.{Map}
use Rattle.fold_client.specs.Hashed.{rows_in}
use Rattle.fold_client.proofs.Hashed.{get_hashed, remove_hashed}
use Rattle.fold_client.proofs.rows.FoldedRows.take_out.Goals as goal

pub returns-clause-before : goal.returns-clause-before
returns-clause-before c = c.remove.ensures.value ∙ ap (λ (k : List ℕ). hash.get_by_text c.self.inside.rows k) c.as_str.ensures ∙ sym (get_hashed c.self.inside.rows c.args.key.now) ∙ ap (λ (m : Map). fin.get m c.args.key.now) c.self.view_is

pub returns-clause-after : goal.returns-clause-after
returns-clause-after c = remove_hashed c.self.inside.rows c.remove.new.self c.as_str.result.now c.remove.ensures.updates
    ∙ ap (λ (k : List ℕ). fin.remove (rows_in c.self.inside.rows) k) c.as_str.ensures ∙ ap (λ (m : Map). fin.remove m c.args.key.now) c.self.view_is
