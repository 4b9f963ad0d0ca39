use Rattle.std.proofs.Common.{◌≡◌}
use Rattle.pg_dialogue.specs.Columns.{values_of}
use Rattle.pg_dialogue.proofs.Texts.{with_front}
use Rattle.pg_dialogue.proofs.replies.row_of.Given as goal

-- what is left gives the rest of the values
abbrev pub invariant-loop-sent : goal.invariant-loop-sent
invariant-loop-sent l = with_front l.row (values_of l.place l.sent-iterator.rest.items) ≡ values_of l.fn.place l.fn.values.items
