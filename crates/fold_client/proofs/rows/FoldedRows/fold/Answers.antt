use Rattle.std.proofs.Common.{List, sym, subst, Result}
use Rattle.fold_client.specs.declared.rows.Undo.{Undo}
use Rattle.fold_client.specs.declared.rows.Fault.{Fault}
use Rattle.fold_client.specs.Rows.{Steps}
use Rattle.fold_client.proofs.Folding.{Folds, folds_more}
use Rattle.fold_client.proofs.rows.FoldedRows.fold.Goals as goal

pub loop-entry-preserved : goal.loop-entry-preserved
loop-entry-preserved c =
    let e = c.in-Some.entry in
    let rest = c.next.new.self.rest.items in
    let step = subst (λ (r : Result Undo Fault). Steps e.op e c.loop-entry.self c.fold_one.new.self r) c.in-Ok.is c.in_ok-undo.ensures in
    let next = folds_more c.args.entries.items c.loop-entry.entry-iterator.rest.items rest c.args.self.now c.loop-entry.self c.fold_one.new.self c.loop-entry.folded.items c.in-Ok.undo e c.in-Some.ensures.steps.0 c.loop-entry.invariant step in
    subst (λ (us : List Undo). Folds c.args.entries.items rest c.args.self.now c.fold_one.new.self us) (sym (c.in_ok-push-in-Ok.ensures).items) next
