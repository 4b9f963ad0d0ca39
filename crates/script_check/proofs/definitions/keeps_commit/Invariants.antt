use Rattle.std.proofs.Common.{◌≡◌, drop}
use Rattle.std.specs.List.{list_all, slice_get}
use Rattle.shape_base.specs.declared.change.Change.{Change}
use Rattle.script_check.specs.Definitions.{is_declared}
use Rattle.script_check.proofs.definitions.keeps_commit.Given as goal

abbrev pub invariant-loop-change : goal.invariant-loop-change
invariant-loop-change l = list_all (λ (c : Change). is_declared l.defs (slice_get l.tx.defs c.def)) (drop l.change-index l.change-items) ≡ list_all (λ (c : Change). is_declared l.defs (slice_get l.tx.defs c.def)) l.tx.changes
