use Rattle.std.proofs.Common.{◌∙◌}
use Rattle.fold_client.proofs.Folding.{undone_last}
use Rattle.fold_client.proofs.rows.FoldedRows.undo.Goals as goal

pub loop-last-preserved : goal.loop-last-preserved
loop-last-preserved c = undone_last c.loop-last.folded.items c.in-Some.last c.pop.new.self.items c.loop-last.self c.restore.new.self (c.in-Some.ensures).items c.in_ok-restore.ensures ∙ c.loop-last.invariant
