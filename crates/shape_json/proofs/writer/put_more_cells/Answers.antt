use Rattle.std.proofs.Common.{[], ◌∷◌}
use Rattle.shape_json.specs.Body.{cell_text}
use Rattle.shape_json.proofs.Writing.{room_first, room_next, room_more, adds_more}
use Rattle.shape_json.proofs.writer.put_more_cells.Goals as goal

pub put-requires : goal.put-requires
put-requires c = room_first c.loop-cell.out (44 ∷ []) (cell_text c.cell-item.result) (room_more cell_text c.args.cells.now c.loop-cell.cell-index c.cell-item.result c.loop-cell-test.true c.cell-item.is c.loop-cell.invariant.added c.requires)

pub put_cell-requires : goal.put_cell-requires
put_cell-requires c = room_next c.put.ensures (cell_text c.cell-item.result) (room_more cell_text c.args.cells.now c.loop-cell.cell-index c.cell-item.result c.loop-cell-test.true c.cell-item.is c.loop-cell.invariant.added c.requires)

pub loop-cell-preserved : goal.loop-cell-preserved
loop-cell-preserved c = record { added = adds_more cell_text c.args.cells.now c.loop-cell.cell-index c.cell-item.result c.loop-cell-test.true c.cell-item.is c.loop-cell.invariant.added c.put.ensures c.put_cell.ensures }
