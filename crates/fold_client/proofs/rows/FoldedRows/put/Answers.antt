use Rattle.std.proofs.Common.{ℕ, List, sym, ap, ◌∙◌, string_bytes}
use Rattle.std.specs.FinMap as fin
use Rattle.std.specs.HashMap as hash
use Rattle.shape_base.specs.Shape.{Map}
use Rattle.fold_client.proofs.Hashed.{get_hashed, insert_hashed}
use Rattle.fold_client.proofs.rows.FoldedRows.put.Goals as goal

pub returns : goal.returns
returns c =
    let m = c.self.inside.rows in
    let key = c.in_ok-key.ensures.ok ∙ c.as_str.ensures in (
      (c.in_ok-insert.ensures).old ∙ ap (λ (k : List ℕ). hash.get_by_text m k) key ∙ sym (get_hashed m c.args.key.now) ∙ ap (λ (n : Map). fin.get n c.args.key.now) c.self.view_is,
      insert_hashed m c.insert.new.self (string_bytes c.in_ok-key.key) c.args.cells (c.in_ok-insert.ensures).updates
          ∙ ap (λ (n : Map). fin.insert n (string_bytes c.in_ok-key.key) c.args.cells) c.self.view_is
          ∙ ap (λ (k : List ℕ). fin.insert c.args.self.now k c.args.cells) key,
    )
