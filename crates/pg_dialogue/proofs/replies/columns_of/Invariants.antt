use Rattle.std.proofs.Common.{◌≡◌}
use Rattle.pg_dialogue.specs.Columns.{columns_of}
use Rattle.pg_dialogue.proofs.Texts.{with_front}
use Rattle.pg_dialogue.proofs.replies.columns_of.Given as goal

-- what is left gives the rest of the columns
abbrev pub invariant-loop-field : goal.invariant-loop-field
invariant-loop-field l = with_front l.columns (columns_of l.place l.field-iterator.rest.items) ≡ columns_of l.fn.place l.fn.fields.items
