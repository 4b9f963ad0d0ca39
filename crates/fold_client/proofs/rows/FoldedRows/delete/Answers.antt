use Rattle.std.proofs.Common.{refl}
use Rattle.fold_client.proofs.Folding.{deleted, deleted_not}
use Rattle.fold_client.proofs.rows.FoldedRows.delete.Goals as goal

pub returns-in-None : goal.returns-in-None
returns-in-None c =
    let p = deleted_not c.args.self.now c.take_out.new.self c.args.entry.key c.args.entry.cells c.take_out.result c.take_out.ensures.before c.in-None.is c.take_out.ensures.after in
    (p.0, p.1, refl, refl)

pub returns : goal.returns
returns c = deleted c.args.self.now c.take_out.new.self c.args.entry.key c.args.entry.cells c.in-Some.before c.take_out.result c.take_out.ensures.before c.in-Some.is c.take_out.ensures.after
