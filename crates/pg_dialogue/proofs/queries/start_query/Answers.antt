use Rattle.std.proofs.Common.{◌∙◌}
use Rattle.pg_dialogue.proofs.Lengths.{short_start}
use Rattle.pg_dialogue.proofs.queries.start_query.Goals as goal

pub query-requires : goal.query-requires
query-requires c = short_start c.args.login.now c.as_slice.result.now c.requires (c.as_slice.ensures.value ∙ c.in_ok-text.ensures)
