use Rattle.std.proofs.Common.{ap}
use Rattle.json.specs.Print.{quoted}
use Rattle.shape_json.proofs.Writing.{joins, adds_same}
use Rattle.shape_json.proofs.writer.put_entry.Goals as goal

pub returns : goal.returns
returns c =
    joins (joins (joins (joins (joins (joins (joins (joins c.put.ensures (adds_same c.operation.ensures c.put-2.ensures)) c.put-3.ensures) (adds_same (ap quoted c.as_str.ensures) c.put_string.ensures)) c.put-4.ensures) c.put_offset.ensures) c.put-5.ensures) c.put_cells.ensures) c.put-6.ensures
