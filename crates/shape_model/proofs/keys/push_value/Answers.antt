use Rattle.std.proofs.Common.{[]}
use Rattle.std.proofs.lemmas.Str.{IsUtf8-nil}
use Rattle.shape_model.proofs.Texts.{value_utf8}
use Rattle.shape_model.proofs.keys.push_value.Goals as goal

pub returns-in_ok-push_quoted-in-None-clause-utf8 : goal.returns-in_ok-push_quoted-in-None-clause-utf8
returns-in_ok-push_quoted-in-None-clause-utf8 c = value_utf8 c.args.out.now.items c.push.new.self.items c.push_quoted.new.out.items [] c.in_ok-push.ensures.items c.in_ok-push_quoted-in-None.ensures IsUtf8-nil

pub returns-in_ok-push_quoted-in-Some-Null-clause-utf8 : goal.returns-in_ok-push_quoted-in-Some-Null-clause-utf8
returns-in_ok-push_quoted-in-Some-Null-clause-utf8 c = value_utf8 c.args.out.now.items c.push.new.self.items c.push_quoted-in-Some-Null.new.out.items [] c.in_ok-push.ensures.items c.in_ok-push_quoted-in-Some-Null.ensures IsUtf8-nil

pub returns-in_ok-push_quoted-in-Some-Words-clause-utf8 : goal.returns-in_ok-push_quoted-in-Some-Words-clause-utf8
returns-in_ok-push_quoted-in-Some-Words-clause-utf8 c = value_utf8 c.args.out.now.items c.push.new.self.items c.push_quoted-in-Some-Words.new.out.items c.as_bytes.result.now c.in_ok-push.ensures.items c.in_ok-push_quoted-in-Some-Words.ensures c.as_bytes.ensures.utf8
