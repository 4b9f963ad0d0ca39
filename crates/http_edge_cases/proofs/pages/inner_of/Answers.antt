use Rattle.std.proofs.Common.{◌≡◌, ◌∷◌, [], ◌++◌, List, ℕ, sym, subst, ap, ◌∙◌, append-nil}
use Rattle.std.specs.Str.{IsUtf8}
use Rattle.std.proofs.lemmas.Str.{IsUtf8-nil}
use Rattle.shape_json.specs.Body.{entry_text}
use Rattle.http_edge_cases.proofs.pages.inner_of.Goals as goal

pub returns : goal.returns
returns c =
    let text = entry_text c.args.entry.now in
    let written : c.put_entry.new.out.items ≡ text = c.put_entry.ensures.is ∙ ap (λ (l : List ℕ). l ++ text) c.in_ok-out.ensures.items in
    record {
      entries = c.args.entry.now ∷ [];
      joins = written ∙ sym (append-nil text);
      utf8 = c.put_entry.ensures.utf8 (subst IsUtf8 (sym c.in_ok-out.ensures.items) IsUtf8-nil);
    }
