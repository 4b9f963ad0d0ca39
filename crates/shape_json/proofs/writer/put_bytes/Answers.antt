use Rattle.std.proofs.Common.{◌≡◌, ◌++◌, sym, subst, rules}
use Rattle.std.specs.Str.{IsUtf8}
use Rattle.std.proofs.lemmas.Str.{IsUtf8-append}
use Rattle.shape_json.proofs.writer.put_bytes.Goals as goal

pub returns : goal.returns
returns c =
    let is : c.extend_from_slice.new.self.items ≡ c.args.out.now.items ++ c.args.text.now = search rules in
    record {
      is = is;
      len = search rules;
      room = c.extend_from_slice.ensures.capacity;
      utf8 = λ before. subst IsUtf8 (sym is) (IsUtf8-append _ _ before c.requires.utf8);
    }
