use Rattle.std.proofs.Common.{ap, ◌∙◌, List, Result}
use Rattle.shape_base.specs.declared.definition.Column.{Column}
use Rattle.pg_dialogue.specs.declared.wire_error.WireError.{WireError}
use Rattle.pg_dialogue.specs.Columns.{next, columns_of}
use Rattle.pg_dialogue.specs.Replies.{described, table_of}
use Rattle.pg_dialogue.proofs.Joined.{pass_on, of_oid, described_is}
use Rattle.pg_dialogue.proofs.replies.described.Goals as goal

pub returns-in-Ok : goal.returns-in-Ok
returns-in-Ok c = described_is c.args.place c.in-Some.oid c.args.fields.items (c.in-Some.ensures ∙ ap table_of c.as_slice.ensures.value) ∙ ap (λ (r : Result (List Column) WireError). next r (of_oid c.in-Some.oid)) c.in-Ok.ensures

pub returns-in-Err : goal.returns-in-Err
returns-in-Err c = pass_on c.in-Err.error (columns_of c.args.place c.args.fields.items) (of_oid c.in-Some.oid) (described c.args.place c.args.fields.items) (described_is c.args.place c.in-Some.oid c.args.fields.items (c.in-Some.ensures ∙ ap table_of c.as_slice.ensures.value)) c.in-Err.ensures
