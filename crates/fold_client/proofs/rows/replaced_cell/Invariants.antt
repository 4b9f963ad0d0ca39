use Rattle.std.proofs.Common.{◌≡◌, drop}
use Rattle.shape_base.specs.Log.{value_in}
use Rattle.fold_client.proofs.rows.replaced_cell.Given as goal

abbrev pub invariant-loop-new : goal.invariant-loop-new
invariant-loop-new l = value_in l.news l.cell.name ≡ value_in (drop l.new-index l.news) l.cell.name
