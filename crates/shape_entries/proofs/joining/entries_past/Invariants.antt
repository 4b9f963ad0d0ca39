use Rattle.std.proofs.Common.{◌≡◌, ◌++◌, drop}
use Rattle.shape_base.specs.Offsets.{past}
use Rattle.shape_entries.proofs.joining.entries_past.Given as goal

-- what was copied and what is left are all past the offset
abbrev pub invariant-loop-place : goal.invariant-loop-place
invariant-loop-place l = l.made ++ drop l.place l.log.entries ≡ past l.fn.offset l.log.entries
