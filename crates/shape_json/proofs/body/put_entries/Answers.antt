use Rattle.std.proofs.Common.{◌≡◌, ◌∷◌, sym, ap, rules}
use Rattle.shape_json.specs.Body.{inner_text}
use Rattle.shape_json.proofs.Writing.{joins, adds_same}
use Rattle.shape_json.proofs.body.put_entries.Goals as goal

pub returns : goal.returns
returns c =
    let same : c.args.entries.now ≡ c.in-Some.first.now ∷ c.in-Some.others.now = search rules in
    adds_same (sym (ap inner_text same)) (joins c.put_entry.ensures c.put_more_entries.ensures)
