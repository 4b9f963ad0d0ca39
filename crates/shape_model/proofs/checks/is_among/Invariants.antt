use Rattle.std.proofs.Common.{◌≡◌, drop}
use Rattle.std.specs.List.{list_any}
use Rattle.shape_base.specs.Tables.{same_def}
use Rattle.shape_model.proofs.checks.is_among.Given as goal

abbrev pub invariant-loop-other : goal.invariant-loop-other
invariant-loop-other l = list_any (same_def l.def) (drop l.other-index l.other-items) ≡ list_any (same_def l.def) l.since
