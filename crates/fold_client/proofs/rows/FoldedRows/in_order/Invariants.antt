use Rattle.shape_base.specs.Maps.{map_in}
use Rattle.fold_client.specs.Hashed.{rows_in}
use Rattle.fold_client.proofs.Hashed.{Joins}
use Rattle.fold_client.proofs.rows.FoldedRows.in_order.Given as goal

-- what is left, and what is in order, are all
abbrev pub invariant-loop-key : goal.invariant-loop-key
invariant-loop-key l = Joins (rows_in l.self-inside.rows) l.key-iterator (map_in l.ordered)
