use Rattle.std.proofs.Common.{◌≡◌, ◌++◌, drop}
use Rattle.std.specs.List.{flat_map}
use Rattle.script.specs.Lines.{row_line}
use Rattle.script.proofs.lines.push_rows.Given as goal

-- what is written, with the lines of the rows that are left
abbrev pub invariant-loop-row : goal.invariant-loop-row
invariant-loop-row l = l.out.items ++ flat_map row_line (drop l.row-index l.row-items) ≡ l.fn.out.items ++ flat_map row_line l.rows
