use Rattle.std.proofs.Common.{◌≡◌, length}
use Rattle.script_play.specs.Script.{is_declared}
use Rattle.script_play.proofs.tables.is_declared.Given as goal

-- what is left gives the same answer
abbrev pub invariant-loop-left : goal.invariant-loop-left
invariant-loop-left l = is_declared l.declared l.table ≡ is_declared l.left l.table

abbrev pub decreases-loop-left : goal.decreases-loop-left
decreases-loop-left l = length l.left
