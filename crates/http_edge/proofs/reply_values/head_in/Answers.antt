use Rattle.std.proofs.Common.{refl}
use Rattle.http_edge.specs.ReplySeen.{seen_lines}
use Rattle.http_edge.proofs.ValueLaws.{head_fixed, head_optional, head_read, allow_refused}
use Rattle.http_edge.proofs.reply_values.head_in.Goals as goal

pub returns-in_default-clause-refused : goal.returns-in_default-clause-refused
returns-in_default-clause-refused c = λ _ head are. c.in_default.ensures.refused refl head.status head.length head.max_age (head_fixed (seen_lines c.args.lines.now) head are)

pub returns-in-Err-clause-refused : goal.returns-in-Err-clause-refused
returns-in-Err-clause-refused c = λ bad head are. c.in-Err.ensures.refused bad head.handle head.offset head.schema head.cursor (head_optional (seen_lines c.args.lines.now) head are)

pub returns-then-is_same-clause-read : goal.returns-then-is_same-clause-read
returns-then-is_same-clause-read c = head_read (seen_lines c.args.lines.now) _ c.in-Some.ensures.read c.in-Ok.ensures.read (c.is_same.ensures.same c.if-is_same.true) refl

pub returns-clause-refused : goal.returns-clause-refused
returns-clause-refused c = λ _. allow_refused (seen_lines c.args.lines.now) _ _ _ c.in-Some.ensures.read (c.is_same.ensures.other c.if-is_same.false)
