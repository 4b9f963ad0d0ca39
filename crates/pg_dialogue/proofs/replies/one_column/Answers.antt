use Rattle.std.proofs.Common.{ap, ◌∙◌, List, Result, length}
use Rattle.shape_base.specs.declared.definition.Column.{Column}
use Rattle.pg_dialogue.specs.declared.wire_error.WireError.{WireError}
use Rattle.pg_dialogue.specs.Columns.{next, columns_of}
use Rattle.pg_dialogue.specs.Replies.{one_column}
use Rattle.pg_dialogue.proofs.Joined.{pass_on, acknowledged, one_column_is}
use Rattle.pg_dialogue.proofs.replies.one_column.Goals as goal

pub returns-in-Ok : goal.returns-in-Ok
returns-in-Ok c = one_column_is c.args.place (length c.as_slice.result.now) c.args.fields.items c.if-as_slice-ne1.false (ap length c.as_slice.ensures.value) ∙ ap (λ (r : Result (List Column) WireError). next r acknowledged) c.in-Ok.ensures

pub returns : goal.returns
returns c = pass_on c.in-Err.error (columns_of c.args.place c.args.fields.items) acknowledged (one_column c.args.place c.args.fields.items) (one_column_is c.args.place (length c.as_slice.result.now) c.args.fields.items c.if-as_slice-ne1.false (ap length c.as_slice.ensures.value)) c.in-Err.ensures
