use Rattle.std.proofs.Common.{◌∙◌, ◌∷◌, ◌++◌, ap, sym}
use Rattle.std.specs.List.{flat_map}
use Rattle.http_edge.specs.Schema.{column_text}
use Rattle.core_server.specs.Columns.{column_in}
use Rattle.core_server.proofs.Texts.{columns_is}
use Rattle.core_server.proofs.schema.some_schema.Goals as goal

pub returns : goal.returns
returns c = c.from_string.ensures ∙ c.in_ok-push_places.ensures
    ∙ ap (λ text. text ++ flat_map (λ place. 44 ∷ column_text (column_in c.args.columns.now place)) c.args.rest.now) (c.in_ok-push_place.ensures ∙ ap (λ text. text ++ column_text (column_in c.args.columns.now c.args.first)) c.new-text.ensures.bytes)
    ∙ sym (columns_is c.args.columns.now c.args.first c.args.rest.now)
