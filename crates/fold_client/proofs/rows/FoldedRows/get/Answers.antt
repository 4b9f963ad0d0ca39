use Rattle.std.proofs.Common.{ℕ, List, sym, ap, ◌∙◌}
use Rattle.std.specs.FinMap as fin
use Rattle.std.specs.HashMap as hash
use Rattle.shape_base.specs.Shape.{Map}
use Rattle.fold_client.proofs.Hashed.{get_hashed}
use Rattle.fold_client.proofs.rows.FoldedRows.get.Goals as goal

pub returns : goal.returns
returns c = c.get.ensures.value ∙ ap (λ (k : List ℕ). hash.get_by_text c.self.inside.rows k) c.as_str.ensures ∙ sym (get_hashed c.self.inside.rows c.args.key.now) ∙ ap (λ (m : Map). fin.get m c.args.key.now) c.self.view_is
