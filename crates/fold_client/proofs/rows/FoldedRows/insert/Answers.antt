use Rattle.std.proofs.Common.{refl}
use Rattle.fold_client.proofs.Folding.{inserted, inserted_not}
use Rattle.fold_client.proofs.rows.FoldedRows.insert.Goals as goal

pub returns-in-None : goal.returns-in-None
returns-in-None c = inserted c.args.self.now c.put.new.self c.args.entry.key c.args.entry.cells c.in_ok-put.field-0 (c.in_ok-put.ensures).0 c.in-None.is (c.in_ok-put.ensures).1

pub returns-in_ok-_cells-in-Some : goal.returns-in_ok-_cells-in-Some
returns-in_ok-_cells-in-Some c =
    let p = inserted_not c.args.self.now c.put.new.self c.put-in-Some.new.self c.args.entry.key c.args.entry.cells c.in-Some.before c.in_ok-put.field-0 (c.in_ok-put.ensures).0 c.in-Some.is (c.in_ok-put.ensures).1 (c.in_ok-_cells-in-Some.ensures).1 in
    (p.0, p.1, refl, refl)
