use Rattle.http_edge.proofs.FieldLaws.{close_trimmed}
use Rattle.http_edge.proofs.head_fields.is_close.Goals as goal

pub returns : goal.returns
returns c = close_trimmed c.args.option.now c.without_leading.result.now c.without_trailing.result.now c.is_named.result c.without_leading.ensures c.without_trailing.ensures c.is_named.ensures
