use Rattle.std.proofs.Common.{◌≡◌, ◌++◌, [], ◌∷◌, length, sym, subst, ap, ◌∙◌, arith, append_assoc, length-append}
use Rattle.std.specs.Str.{IsUtf8}
use Rattle.std.proofs.lemmas.Str.{IsUtf8-append}
use Rattle.json.specs.Print.{quoted, escape}
use Rattle.json.proofs.Printed.Utf8.{IsUtf8-quoted}
use Rattle.shape_json.proofs.writer.put_string.Goals as goal

pub returns : goal.returns
returns c =
    let old = c.args.out.now.items in
    let text = c.args.text.now in
    let same : escape c.as_bytes.result.now ≡ escape text = ap escape c.as_bytes.ensures.value in
    let is : c.put-2.new.out.items ≡ old ++ quoted text = c.put-2.ensures.is ∙ ap (λ l. l ++ 34 ∷ []) (c.put_escaped.ensures.text ∙ ap (λ l. l ++ escape c.as_bytes.result.now) c.put.ensures.is)
    ∙ append_assoc (old ++ 34 ∷ []) (escape c.as_bytes.result.now) (34 ∷ []) ∙ append_assoc old (34 ∷ []) (escape c.as_bytes.result.now ++ 34 ∷ [])
    ∙ ap (λ l. old ++ 34 ∷ (l ++ 34 ∷ [])) same in
    record {
      is = is;
      len = omega (arith, c.put.ensures.len, c.put_escaped.ensures.len, c.put-2.ensures.len, ap length same, length-append (escape text) (34 ∷ []));
      room = omega (arith, c.put.ensures.room, c.put_escaped.ensures.room, c.put-2.ensures.room);
      utf8 = λ before. subst IsUtf8 (sym is) (IsUtf8-append _ _ before (IsUtf8-quoted text c.utf8.text));
    }
