use Rattle.std.proofs.Common.{◌≡◌, drop}
use Rattle.shape_base.specs.Tables.{own_from, changes_of}
use Rattle.shape_model.specs.Checks.{check_changes}
use Rattle.shape_model.proofs.checks.good_commit.Given as goal

-- the changes that are left lead to the same
abbrev pub invariant-loop-change : goal.invariant-loop-change
invariant-loop-change l = check_changes l.served l.def (own_from l.table l.tx.defs l.change-index (drop l.change-index l.change-items)) l.rows ≡ check_changes l.served l.def (changes_of l.table l.tx) l.fn.rows
