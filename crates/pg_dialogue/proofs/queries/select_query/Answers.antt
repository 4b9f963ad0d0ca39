use Rattle.std.proofs.Common.{ap, ◌∙◌, List, ℕ, ◌++◌}
use Rattle.pg_dialogue.specs.Queries.{select}
use Rattle.pg_dialogue.proofs.Lengths.{short_select}
use Rattle.pg_dialogue.proofs.queries.select_query.Goals as goal

pub query-requires : goal.query-requires
query-requires c = short_select c.args.table.now c.as_slice.result.now c.requires (c.as_slice.ensures.value ∙ c.in_ok-put_select.ensures ∙ ap (λ (xs : List ℕ). xs ++ select c.args.table.now) c.new-text.ensures.items)
