use Rattle.std.proofs.Common.{◌≡◌, drop}
use Rattle.std.specs.List.{list_any, slice_get}
use Rattle.shape_base.specs.declared.change.Change.{Change}
use Rattle.shape_model.specs.Checks.{is_own, touches}
use Rattle.shape_model.proofs.checks.touches.Given as goal

-- none so far
abbrev pub invariant-loop-change : goal.invariant-loop-change
invariant-loop-change l = list_any (λ (c : Change). is_own l.table (slice_get l.tx.defs c.def)) (drop l.change-index l.change-items) ≡ touches l.table l.tx
