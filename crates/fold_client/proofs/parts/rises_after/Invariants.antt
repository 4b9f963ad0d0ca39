use Rattle.std.proofs.Common.{◌≡◌, drop}
use Rattle.shape_base.specs.Offsets.{rises_after}
use Rattle.fold_client.proofs.parts.rises_after.Given as goal

-- the answer is that for what is left
abbrev pub invariant-loop-entry : goal.invariant-loop-entry
invariant-loop-entry l = rises_after l.fn.asked l.entries ≡ rises_after l.last (drop l.entry-index l.entries)
