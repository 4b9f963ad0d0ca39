use Rattle.std.proofs.Common.{◌≡◌, vec_len}
use Rattle.fold_client.specs.Rows.{undone}
use Rattle.fold_client.proofs.rows.FoldedRows.undo.Given as goal

-- what is left to undo leads to the same rows
abbrev pub invariant-loop-last : goal.invariant-loop-last
invariant-loop-last l = undone l.folded.items l.self ≡ undone l.initial.folded.items l.initial.self

abbrev pub decreases-loop-last : goal.decreases-loop-last
decreases-loop-last l = vec_len l.folded
