use Rattle.std.proofs.Common.{◌++◌, List, drop}
use Rattle.std.specs.List.{AllByRecursion}
use Rattle.shape_base.specs.declared.served.Served.{Served}
use Rattle.script_play.specs.Tables.{AreServed, HasKey}
use Rattle.script_play.proofs.tables.tables_of.Given as goal

-- the tables so far, with those of the declarations that are left
abbrev pub invariant-loop-table : goal.invariant-loop-table
invariant-loop-table l = record {
  keys : AllByRecursion HasKey (drop l.table-index l.declared);
  served : (rest : List Served) → AreServed (drop l.table-index l.declared) rest → AreServed l.declared (l.tables.items ++ rest);
}
