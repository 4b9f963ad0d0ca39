use Rattle.std.proofs.Common.{◌≡◌, drop, map, false}
use Rattle.shape_model.specs.Checks.{are_new, values_text}
use Rattle.shape_model.proofs.Texts.{has}
use Rattle.shape_model.proofs.keys.are_new.Given as goal

-- the rows that are left are new, by what was seen, exactly where all are
abbrev pub invariant-loop-place : goal.invariant-loop-place
invariant-loop-place l = are_new (has l.seen) (map (values_text l.key) (drop l.place l.rows)) ≡ are_new (λ q. false) (map (values_text l.key) l.rows)
