use Rattle.std.proofs.Common.{◌≡◌, ◌++◌, ◌<◌, drop}
use Rattle.std.specs.List.{AllByRecursion}
use Rattle.script_play.specs.Tables.{catalog_of, HasFewColumns}
use Rattle.script_play.proofs.tables.catalog_of.Given as goal

-- the definitions so far, with those of the declarations that are left
abbrev pub invariant-loop-table : goal.invariant-loop-table
invariant-loop-table l = record {
  place : l.place ≡ l.table-index;
  small : l.place < 4294967296;
  defs : l.defs.items ++ catalog_of l.place (drop l.table-index l.declared) ≡ catalog_of 0 l.declared;
  columns : AllByRecursion HasFewColumns (drop l.table-index l.declared) → AllByRecursion HasFewColumns l.declared;
}
