use Rattle.std.proofs.Common.{◌∷◌, ℕ, Result, sym, subst}
use Rattle.pg_wire.specs.FrameList.{keepalive_frame}
use Rattle.pg_wire.specs.Contents.{IsShown}
use Rattle.pg_wire.proofs.content.keepalive_at.Goals as goal

pub returns-in-Ok-clause-ok : goal.returns-in-Ok-clause-ok
returns-in-Ok-clause-ok c = subst (λ (r : Result (ℕ × (ℕ × ℕ)) ℕ). IsShown (107 ∷ c.args.bytes.now) c.keepalive.result (keepalive_frame r)) (sym c.in-Ok.ensures) (c.keepalive.ensures c.in-Ok.field-0-1 (107 ∷ c.args.bytes.now))
