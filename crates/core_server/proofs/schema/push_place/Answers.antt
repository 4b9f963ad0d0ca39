use Rattle.std.proofs.Common.{◌≡◌, ◌∙◌, ◌++◌, subst}
use Rattle.std.specs.Prelude.{OnOk}
use Rattle.std.specs.String.{string_bytes}
use Rattle.http_edge.specs.Schema.{column_text}
use Rattle.core_server.proofs.Texts.{nameless}
use Rattle.core_server.proofs.schema.push_place.Goals as goal

pub returns-in-None : goal.returns-in-None
returns-in-None c = subst (λ column. OnOk c.push_column-in-None.result (string_bytes c.push_column-in-None.new.text ≡ string_bytes c.args.text.now ++ column_text column))
    (nameless c.args.columns.now c.args.place c.from_string.result (c.from_string.ensures ∙ c.new.ensures.bytes) c.in-None.ensures) c.push_column-in-None.ensures
