use Rattle.std.proofs.Common.{◌∙◌, Some, ap}
use Rattle.std.specs.Prelude.{map}
use Rattle.shape_base.specs.declared.definition.TableDef.{TableDef}
use Rattle.shape_json.specs.Answer.{in_run}
use Rattle.http_edge.specs.Schema.{columns_text}
use Rattle.http_edge.specs.Lawful.{page_reply}
use Rattle.core_server.specs.Columns.{column_in}
use Rattle.core_server.specs.Standing.{knows_in}
use Rattle.core_server.proofs.Texts.{schema_is}
use Rattle.core_server.proofs.server.Server.page_reply.Goals as goal

pub returns : goal.returns
returns c = λ part h. c.in_ok-page_reply.ensures part h.inner h.end h.up_to_date
    ∙ ap (λ handle. page_reply c.args.ask.now handle (Some c.in_ok-schema.schema) part) c.in_ok-handle.ensures
    ∙ ap (λ text. page_reply c.args.ask.now (in_run c.args.self.now.run c.args.number) (Some text) part)
    (c.in_ok-schema.ensures
    ∙ ap (λ (d : TableDef). columns_text (map (column_in d.columns) c.selected.result.now)) c.definition.ensures
    ∙ ap (λ places. columns_text (map (column_in (knows_in c.args.test.now).definition.columns) places)) c.selected.ensures
    ∙ schema_is (knows_in c.args.test.now))
