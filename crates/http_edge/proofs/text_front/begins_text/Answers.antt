use Rattle.std.proofs.Common.{sym, ap, ◌∙◌}
use Rattle.std.specs.Option.{is_some}
use Rattle.http_edge.proofs.TextFronts.{stops}
use Rattle.http_edge.proofs.text_front.begins_text.Goals as goal

pub returns-in-Err : goal.returns-in-Err
returns-in-Err c =
    stops c.args.bytes.now c.in-Err.error.valid_up_to c.in-Err.error.error_len c.is_none.result c.in-Err.ensures.cases.1 c.in-Err.ensures.fault c.in-Err.ensures.error_len
    (ap is_some (sym c.error_len.ensures) ∙ c.is_none.ensures)
