use Rattle.std.proofs.Common.{◌≡◌, ◌++◌, true, take}
use Rattle.script_writing.specs.Parts.{all}
use Rattle.script_writing.specs.Tables.{key_column}
use Rattle.script_writing.proofs.table.put_key_columns.Given as goal

abbrev pub invariant-loop-column : goal.invariant-loop-column
invariant-loop-column l = (l.out.items ≡ l.fn.out.items ++ (all (key_column l.names) (take l.column-index l.key)).bytes) × ((all (key_column l.names) (take l.column-index l.key)).fits ≡ true)
