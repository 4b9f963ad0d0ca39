use Rattle.std.proofs.Common.{◌≡◌, drop}
use Rattle.shape_base.specs.Log.{last_offset}
use Rattle.fold_client.proofs.parts.last_offset.Given as goal

-- what is left leads to the same end
abbrev pub invariant-loop-entry : goal.invariant-loop-entry
invariant-loop-entry l = last_offset l.fn.from l.entries ≡ last_offset l.last (drop l.entry-index l.entries)
