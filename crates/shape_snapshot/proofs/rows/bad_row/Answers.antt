use Rattle.std.proofs.Common.{◌∙◌, ap, sym}
use Rattle.shape_snapshot.proofs.BadRows.{inserts_null, inserts_unread, same_row}
use Rattle.shape_snapshot.proofs.rows.bad_row.Goals as goal

pub returns-in-Ok : goal.returns-in-Ok
returns-in-Ok g c row is =
    let s = g.T.RowTest.knows c.args.test.now in
    let same = same_row c.args.kind.now c.in-Insert.new row c.in-Insert.is is in
    inserts_null s (g.T.RowTest.unread c.args.test.now) c.args.kind.now row c.args.column c.in-Ok.field-0 (g.met.T.RowTest.lawful c.args.test.now) c.requires.whole c.requires.bad is (ap s.truth (sym same) ∙ c.in-Ok.ensures)

pub returns-in-Err : goal.returns-in-Err
returns-in-Err g c row is =
    let s = g.T.RowTest.knows c.args.test.now in
    let same = same_row c.args.kind.now c.in-Insert.new row c.in-Insert.is is in
    inserts_unread s (g.T.RowTest.unread c.args.test.now) c.args.kind.now row c.args.column (g.met.T.RowTest.reads c.args.test.now) c.requires.whole c.requires.bad is (ap s.truth (sym same) ∙ (c.in-Err.ensures).0)
