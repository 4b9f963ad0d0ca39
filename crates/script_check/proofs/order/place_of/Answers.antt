use Rattle.std.proofs.Common.{◌≡◌, ◌<◌, true, length, arith}
use Rattle.shape_base.specs.Tables.{same_row}
use Rattle.script_check.proofs.Permuting.{found_at}
use Rattle.script_check.proofs.order.place_of.Goals as goal

pub returns-then-are_same_rows : goal.returns-then-are_same_rows
returns-then-are_same_rows c =
    let lt : c.loop-place.place < length c.args.rows.now = omega arith in
    let same : same_row c.args.row.now c.at.result.now ≡ true = cc in
    (lt, found_at c.args.row.now c.at.result.now c.args.rows.now c.loop-place.place c.at.ensures same)
