use Rattle.std.proofs.Common.{◌≡◌, ◌+◌, ◌++◌, length, Ok}
use Rattle.tx_assembler.specs.Answers.{next}
use Rattle.tx_assembler.specs.Rows.{values_of}
use Rattle.tx_assembler.proofs.rows.values_of.Given as goal

-- what is left gives the rest of the values
abbrev pub invariant-loop-field : goal.invariant-loop-field
invariant-loop-field l = record {
  place : l.column + length l.field-iterator.rest.items ≡ length l.fn.fields;
  same : values_of l.before 0 l.fn.fields ≡ next (values_of l.before l.column l.field-iterator.rest.items) (λ vs. Ok (l.row ++ vs));
}
