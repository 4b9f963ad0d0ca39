use Rattle.std.proofs.Common.{◌≡◌, ◌∷◌, [], ◌++◌, List, ℕ, sym, subst, ap, ◌∙◌, append-nil}
use Rattle.std.specs.Str.{IsUtf8}
use Rattle.std.proofs.lemmas.Str.{IsUtf8-nil}
use Rattle.shape_json.specs.Body.{entry_text}
use Rattle.shape_json_cases.proofs.closed.Goals as goal

pub close_body-requires : goal.close_body-requires
close_body-requires c =
    let text = entry_text c.args.entry.now in
    let written : c.put_entry.new.out.items ≡ text = c.put_entry.ensures.is ∙ ap (λ (l : List ℕ). l ++ text) c.in_ok-inner.ensures.items in
    record {
      entries = c.args.entry.now ∷ [];
      joins = c.as_slice.ensures.value ∙ written ∙ sym (append-nil text);
      utf8 = subst IsUtf8 (sym c.as_slice.ensures.value) (c.put_entry.ensures.utf8 (subst IsUtf8 (sym c.in_ok-inner.ensures.items) IsUtf8-nil));
    }
