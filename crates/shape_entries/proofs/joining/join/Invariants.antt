use Rattle.std.proofs.Common.{◌≡◌, ◌++◌, ◌≤◌, true, length}
use Rattle.shape_base.specs.Offsets.{rises_after}
use Rattle.shape_base.specs.Log.{end_of}
use Rattle.shape_entries.proofs.joining.join.Given as goal

-- what is in the log and what is left are what was there and what joins
abbrev pub invariant-loop-entry : goal.invariant-loop-entry
invariant-loop-entry l = record {
  joined : l.log.entries ++ l.entry-iterator.rest.items ≡ l.fn.log.entries ++ l.fn.joins;
  rises : rises_after (end_of l.log.entries) l.entry-iterator.rest.items ≡ true;
  room : length l.entry-iterator.rest.items ≤ l.log.spare;
  bytes : l.log.bytes ≡ 0;
}
