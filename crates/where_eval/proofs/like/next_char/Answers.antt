use Rattle.std.proofs.Common.{◌≡◌, ◌++◌}
use Rattle.std.proofs.lemmas.Str.{chars_past_char}
use Rattle.std.specs.Char.{encode_utf8}
use Rattle.where_eval.proofs.like.next_char.Goals as goal

pub returns : goal.returns
returns c =
    let s = c.in_ok-first.ensures.steps in let r = c.chars-rest.ensures.rest in let a = c.as_str.ensures in
    let cut : c.args.text.now ≡ encode_utf8 c.in_ok-first.first ++ c.as_str.result.now = cc in
    (chars_past_char c.args.text.now c.as_str.result.now c.in_ok-first.first c.utf8.text cut, c.as_str.utf8)
