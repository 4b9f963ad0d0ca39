use Rattle.std.proofs.Common.{◌≡◌, ◌∙◌, length, ap, sym, subst}
use Rattle.std.specs.Prelude.{map, IfOk}
use Rattle.http_edge.specs.Schema.{columns_text}
use Rattle.core_server.specs.Columns.{column_in}
use Rattle.core_server.proofs.Texts.{columns_none}
use Rattle.core_server.proofs.schema.schema_of.Goals as goal

pub returns-in-None : goal.returns-in-None
returns-in-None c = c.from_string.ensures ∙ c.new.ensures.bytes ∙ columns_none c.args.columns.now c.args.selected.now (ap length (sym c.as_slice.ensures) ∙ c.in-None.ensures.cases)

pub returns-in-Some : goal.returns-in-Some
returns-in-Some c = subst (λ places. IfOk c.some_schema.result (λ text. text ≡ columns_text (map (column_in c.args.columns.now) places))) (sym c.in-Some.ensures.cases.0 ∙ c.as_slice.ensures) c.some_schema.ensures
