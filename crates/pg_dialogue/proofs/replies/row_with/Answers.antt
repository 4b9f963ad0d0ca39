use Rattle.std.proofs.Common.{ap, ◌∙◌, List, Result, Ok}
use Rattle.shape_base.specs.declared.value.Value as values
use Rattle.pg_dialogue.specs.declared.wire_error.WireError.{WireError}
use Rattle.pg_dialogue.specs.Columns.{next, values_of}
use Rattle.pg_dialogue.specs.Replies.{row_with}
use Rattle.pg_dialogue.proofs.Joined.{pass_on, as_row, row_is}
use Rattle.pg_dialogue.proofs.replies.row_with.Goals as goal

pub returns-in-Ok : goal.returns-in-Ok
returns-in-Ok c = row_is c.args.place c.args.values.items ∙ ap (λ (r : Result (List values.Value) WireError). next r as_row) c.in-Ok.ensures

pub returns-in-Err : goal.returns-in-Err
returns-in-Err c = pass_on c.in-Err.error (values_of c.args.place c.args.values.items) as_row (row_with c.args.place (Ok c.args.values.items)) (row_is c.args.place c.args.values.items) c.in-Err.ensures
