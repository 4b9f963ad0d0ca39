use Rattle.std.proofs.Common.{sym, subst, ◌∙◌}
use Rattle.std.specs.Str.{IsUtf8}
use Rattle.http_edge.proofs.ValueLaws.{visible_utf8}
use Rattle.http_edge.proofs.reply_values.schema_in.Goals as goal

pub of_bytes-requires : goal.of_bytes-requires
of_bytes-requires c = subst IsUtf8 (sym c.in-Ok.ensures.items) (visible_utf8 c.in-Some.value.now (sym c.are_visible.ensures ∙ c.if-are_visible.true))
