use Rattle.std.proofs.Common.{arith}
use Rattle.script_play.proofs.Catalogs.{catalog_is}
use Rattle.script_play.proofs.Keys.{served_alike}
use Rattle.script_play.proofs.tables.options_of.Goals as goal

pub returns-clause-few : goal.returns-clause-few
returns-clause-few c = omega (arith, served_alike _ _ c.in_ok-tables.ensures, c.in_ok-defs.ensures.few)

pub returns-clause-placed : goal.returns-clause-placed
returns-clause-placed c = catalog_is _ _ _ c.in_ok-tables.ensures c.in_ok-defs.ensures.catalog c.in_ok-defs.ensures.columns
