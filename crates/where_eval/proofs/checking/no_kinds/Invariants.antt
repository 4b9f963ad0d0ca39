use Rattle.std.proofs.Common.{◌≡◌, ◌≤◌, ◌-◌, ℕ, length, slice_index_or}
use Rattle.pg_values.specs.declared.kind.Kind.TheVariants.{Other}
use Rattle.where_eval.proofs.checking.no_kinds.Given as goal

abbrev pub invariant-loop-kinds : goal.invariant-loop-kinds
invariant-loop-kinds l = (length l.kinds.items ≤ length l.columns) × ((place : ℕ) → slice_index_or l.kinds.items place Other ≡ Other)

abbrev pub decreases-loop-kinds : goal.decreases-loop-kinds
decreases-loop-kinds l = length l.columns - length l.kinds.items
