use Rattle.http_edge.specs.ReplySeen.{seen_optional}
use Rattle.http_edge.proofs.ValueLaws.{handle_refused}
use Rattle.http_edge.proofs.reply_values.optional_values.Goals as goal

pub returns-in-Err-clause-refused : goal.returns-in-Err-clause-refused
returns-in-Err-clause-refused c = λ bad. handle_refused (seen_optional c.args.optional.now) (c.in-Err.ensures.refused bad)
