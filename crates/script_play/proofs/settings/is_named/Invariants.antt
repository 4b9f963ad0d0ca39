use Rattle.std.proofs.Common.{length, map}
use Rattle.std.specs.Prelude.{◌↔◌}
use Rattle.std.specs.String.{string_bytes}
use Rattle.script_play.specs.Settings.{IsNamed}
use Rattle.script_play.proofs.settings.is_named.Given as goal

-- what is left gives the same answer
abbrev pub invariant-loop-left : goal.invariant-loop-left
invariant-loop-left l = IsNamed (string_bytes l.name) (map string_bytes l.left) ↔ IsNamed (string_bytes l.name) (map string_bytes l.words)

abbrev pub decreases-loop-left : goal.decreases-loop-left
decreases-loop-left l = length l.left
