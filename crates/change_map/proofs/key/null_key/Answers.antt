use Rattle.std.proofs.Common.{rules, ◌+◌, arith, sym, subst, take}
use Rattle.std.proofs.lemmas.Grind.{common_steps}
use Rattle.change_map.proofs.KeyLaws.{IsNullKey, null_next, null_taken}
use Rattle.change_map.proofs.key.null_key.Goals as goal
use Rattle.change_map.proofs.key.null_key.Goals.{then-is_null_at, else-is_null_at}

pub loop-place-preserved : goal.loop-place-preserved
loop-place-preserved c = elim c.if-is_null_at.branch [
  | then-is_null_at w ↦ subst (λ o. IsNullKey (take (c.loop-place.place-index + 1) c.args.key.now) c.args.row.now o) (sym w.least-is) (null_taken c.args.key.now c.args.row.now c.loop-place.place-index 0 c.loop-place.least w.lesser.result (search rules) (first_of (search rules, grind (arith, common_steps))) c.loop-place.invariant (search rules))
  | else-is_null_at w ↦ subst (λ o. IsNullKey (take (c.loop-place.place-index + 1) c.args.key.now) c.args.row.now o) (sym w.least-is) (null_next c.args.key.now c.args.row.now c.loop-place.place-index 0 c.loop-place.least (search rules) (first_of (search rules, grind (arith, common_steps))) c.loop-place.invariant)
]
