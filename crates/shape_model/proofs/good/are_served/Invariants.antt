use Rattle.std.proofs.Common.{◌≡◌, drop}
use Rattle.std.specs.List.{list_all, slice_get}
use Rattle.shape_base.specs.declared.change.Change.{Change}
use Rattle.shape_model.specs.Order.{is_served}
use Rattle.shape_model.proofs.good.are_served.Given as goal

abbrev pub invariant-loop-change : goal.invariant-loop-change
invariant-loop-change l = list_all (λ (c : Change). is_served l.tables (slice_get l.tx.defs c.def)) (drop l.change-index l.change-items) ≡ list_all (λ (c : Change). is_served l.tables (slice_get l.tx.defs c.def)) l.tx.changes
