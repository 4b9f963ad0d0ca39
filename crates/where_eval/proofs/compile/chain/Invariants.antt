use Rattle.std.proofs.Common.{◌≡◌, ◌++◌, map, vec_len}
use Rattle.shape_base.specs.Tables.{Values}
use Rattle.where_eval.specs.Plans.{meaning, meanings}
use Rattle.where_eval.proofs.compile.chain.Given as goal

abbrev pub invariant-loop-member : goal.invariant-loop-member
invariant-loop-member l = (row : Values) → map (λ p. meaning p row) l.members.items ++ meanings l.rest row ≡ map (λ p. meaning p row) l.fn.members.items

abbrev pub decreases-loop-member : goal.decreases-loop-member
decreases-loop-member l = vec_len l.members
