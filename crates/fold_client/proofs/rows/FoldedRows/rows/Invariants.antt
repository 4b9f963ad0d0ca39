use Rattle.std.proofs.Common.{◌≡◌, ◌++◌, map}
use Rattle.std.specs.FinMap as fin
use Rattle.fold_client.specs.Rows.{keyed_row}
use Rattle.fold_client.proofs.rows.FoldedRows.rows.Given as goal

-- what is made, and what the rows that are left make, are all
abbrev pub invariant-loop-key : goal.invariant-loop-key
invariant-loop-key l = l.made ++ map keyed_row l.key-iterator ≡ map keyed_row (fin.entries l.self)
