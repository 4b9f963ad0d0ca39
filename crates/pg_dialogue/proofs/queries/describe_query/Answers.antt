use Rattle.std.proofs.Common.{ap, ◌∙◌, List, ℕ, ◌++◌, codes, arith}
use Rattle.pg_dialogue.specs.Queries.{select}
use Rattle.pg_dialogue.proofs.Lengths.{short_describe}
use Rattle.pg_dialogue.proofs.queries.describe_query.Goals as goal

pub query-requires : goal.query-requires
query-requires c = short_describe c.args.table.now c.as_slice.result.now (codes " LIMIT 0") c.requires
    (c.as_slice.ensures.value ∙ c.in_ok-extend_from_slice.ensures.items ∙ ap (λ (xs : List ℕ). xs ++ codes " LIMIT 0") (c.in_ok-put_select.ensures ∙ ap (λ (xs : List ℕ). xs ++ select c.args.table.now) c.new-text.ensures.items)) (omega arith)
