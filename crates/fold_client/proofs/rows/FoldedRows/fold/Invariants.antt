use Rattle.fold_client.proofs.Folding.{Folds}
use Rattle.fold_client.proofs.rows.FoldedRows.fold.Given as goal

abbrev pub invariant-loop-entry : goal.invariant-loop-entry
invariant-loop-entry l = Folds l.fn.entries.items l.entry-iterator.rest.items l.fn.self l.self l.folded.items
