use Rattle.std.proofs.Common.{◌≡◌, ◌++◌, drop}
use Rattle.script_play.specs.Tables.{names_of}
use Rattle.script_play.proofs.tables.names_of.Given as goal

-- the names so far, with those of the columns that are left
abbrev pub invariant-loop-column : goal.invariant-loop-column
invariant-loop-column l = l.names ++ names_of (drop l.column-index l.column-items) ≡ names_of l.columns
