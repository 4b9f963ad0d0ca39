use Rattle.std.proofs.Common.{◌≡◌, ◌++◌, Ok}
use Rattle.tx_assembler.specs.Answers.{next}
use Rattle.tx_assembler.specs.Rows.{columns_of}
use Rattle.tx_assembler.proofs.described.columns_of.Given as goal

-- what is left gives the rest of the columns
abbrev pub invariant-loop-column : goal.invariant-loop-column
invariant-loop-column l = columns_of l.fn.columns ≡ next (columns_of l.column-iterator.rest.items) (λ cs. Ok (l.made ++ cs))
