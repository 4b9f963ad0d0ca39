use Rattle.std.proofs.Common.{ℕ, length, map}
use Rattle.std.specs.String.{string_bytes}
use Rattle.script_play.specs.Settings.{AreOptions, IsSet}
use Rattle.script_play.proofs.settings.value_of.Given as goal

-- what is left are options, and gives the same value
abbrev pub invariant-loop-left : goal.invariant-loop-left
invariant-loop-left l = record {
  options : AreOptions (map string_bytes l.left);
  same : (n : ℕ) → IsSet (map string_bytes l.left) l.name l.usual n → IsSet (map string_bytes l.options) l.name l.usual n;
}

abbrev pub decreases-loop-left : goal.decreases-loop-left
decreases-loop-left l = length l.left
